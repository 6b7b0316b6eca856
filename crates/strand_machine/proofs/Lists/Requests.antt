-- Serves clauses step and parts of Machine::step: the controller's list by the requests in flight.
use Rattle.std.proofs.Common.{◌≡◌, ℕ, suc, ◌<◌, List, [], ◌∷◌, ◌++◌, length, map, sym, ap, ◌∙◌, arith}
use Rattle.std.specs.Prelude.{remove, take, drop, slice_get, slice_index, Some}
use Rattle.std.specs.Option.{option_map}
use Rattle.std.proofs.lemmas.List.{map-append, take-map}
use Rattle.std.proofs.lemmas.Option.{slice_get-map, slice_get-get_or, slice_get_within}
use Rattle.strand_base.proofs.BelowBound.{any_agree}
use Rattle.strand_inputs.specs.Settings.{Settings}
use Rattle.strand_events.specs.Trace.{word_at}
use Rattle.strand_rules.specs.Cycle.{State, older_waits, has_word_of, send_after, write_after}
use Rattle.strand_control.specs.Flight as flights
use Rattle.strand_machine.specs.Stand.{request_at, requests}
use Rattle.strand_machine.proofs.Lists.Queue.{drop_map}

remove_map : {X Y : Type 0} (f : X → Y) (xs : List X) (i : ℕ) → map f (remove xs i) ≡ remove (map f xs) i
remove_map f xs i = map-append f (take i xs) (drop (suc i) xs) ∙ cc (sym (take-map f i xs), drop_map f (suc i) xs)

module _ (g : Settings) (s : State) where
  pub request_there : (j p : ℕ) → slice_get s.flight j ≡ Some p → slice_get (requests g s) j ≡ Some (request_at g s p)
  request_there j p e = slice_get-map (request_at g s) s.flight j ∙ ap (option_map (request_at g s)) e

  -- an older request of its word by the list
  pub older_by_list : (j p : ℕ) → slice_get s.flight j ≡ Some p → flights.older_waits (requests g s) j (word_at s.now.trace p) ≡ older_waits s j p
  older_by_list j p e = any_agree j (λ i. flights.has_word (word_at s.now.trace p) (slice_get (requests g s) i)) (has_word_of s p) (λ i lt.
      let inside : i < length s.flight = omega (arith, lt, slice_get_within s.flight j p e) in
      ap (flights.has_word (word_at s.now.trace p)) (request_there i (slice_index s.flight i) (slice_get-get_or s.flight i 0 inside)))

  -- a send puts a request at the end
  pub requests_sent : (p : ℕ) → requests g (send_after s (Some p)) ≡ requests g s ++ request_at g s p ∷ []
  requests_sent p = map-append (request_at g s) s.flight (p ∷ [])

  -- a write takes the request out
  pub requests_written : (j p : ℕ) → requests g (write_after s j (Some p)) ≡ remove (requests g s) j
  requests_written j p = remove_map (request_at g s) s.flight j
