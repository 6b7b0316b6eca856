-- Serves clauses step and parts of Machine::step: the queue of a core by its list of items.
use Rattle.std.proofs.Common.{◌≡◌, ℕ, zero, suc, ◌+◌, ◌<◌, List, [], ◌∷◌, length, map, refl, sym, ap, ◌∙◌, arith}
use Rattle.std.specs.Prelude.{drop, slice_get, Some}
use Rattle.std.specs.Option.{option_map}
use Rattle.std.proofs.lemmas.List.{length-drop, length-map, drop-drop}
use Rattle.std.proofs.lemmas.Option.{slice_get-map}
use Rattle.strand_inputs.specs.Settings.{Settings}
use Rattle.strand_rules.specs.Cycle.{State, items, gone, queued, front, item_after}
use Rattle.strand_rules.proofs.MarkSets.{number_set, number_other}
use Rattle.strand_machine.specs.Stand.{item_of, queue_items}

pub get_drop : {X : Type 0} (k i : ℕ) (xs : List X) → slice_get (drop k xs) i ≡ slice_get xs (k + i)
get_drop zero i xs = let e : 0 + i ≡ i = omega arith in ap (slice_get xs) (sym e)
get_drop (suc k) i [] = refl
get_drop (suc k) i (x ∷ xs) = let e : suc k + i ≡ suc (k + i) = omega arith in rw e (get_drop k i xs)

pub drop_map : {X Y : Type 0} (f : X → Y) (k : ℕ) (xs : List X) → map f (drop k xs) ≡ drop k (map f xs)
drop_map f zero xs = refl
drop_map f (suc k) [] = refl
drop_map f (suc k) (x ∷ xs) = drop_map f k xs

module _ (g : Settings) (s : State) (n : ℕ) where
  -- the queue's front is the first item that wasn't dispatched
  pub front_by_queue : slice_get (queue_items g s n) 0 ≡ option_map (item_of g s) (front g s n)
  front_by_queue =
      let e : gone s n + 0 ≡ gone s n = omega arith in
      slice_get-map (item_of g s) (drop (gone s n) (items g.mode s.now.trace n)) 0
      ∙ ap (option_map (item_of g s)) (get_drop (gone s n) 0 (items g.mode s.now.trace n) ∙ ap (slice_get (items g.mode s.now.trace n)) e)

  -- its length is the number of queued items
  pub queued_by_queue : length (queue_items g s n) ≡ queued g s n
  queued_by_queue = length-map (drop (gone s n) (items g.mode s.now.trace n)) (item_of g s) ∙ length-drop (gone s n) (items g.mode s.now.trace n)

  -- a dispatch takes the front out of the core's own queue
  pub queue_dispatched : (k : ℕ) → n < length s.dispatched → queue_items g (item_after s n (Some k)) n ≡ drop 1 (queue_items g s n)
  queue_dispatched k there =
      ap (λ c. map (item_of g s) (drop c (items g.mode s.now.trace n))) (number_set s.dispatched n (gone s n + 1) there)
      ∙ ap (map (item_of g s)) (sym (drop-drop 1 (gone s n) (items g.mode s.now.trace n)))
      ∙ drop_map (item_of g s) 1 (drop (gone s n) (items g.mode s.now.trace n))

  -- and leaves the other queues
  pub queue_of_others : (k m : ℕ) → (m ≡ n → ⊥) → queue_items g (item_after s n (Some k)) m ≡ queue_items g s m
  queue_of_others k m ne = ap (λ c. map (item_of g s) (drop c (items g.mode s.now.trace m))) (number_other s.dispatched n m (gone s n + 1) ne)
