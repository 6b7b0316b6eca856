-- Serves sent and release of StrandBuffers and of Ring.
-- What the stages of entries and the dropping of durable ones leave of a ring.
use Rattle.std.proofs.Common.{◌≡◌, ℕ, zero, suc, ◌+◌, ◌-◌, ◌<◌, ◌≤◌, Bool, true, false, inl, inr, List, [], ◌∷◌, length, map, refl, sym, ap, ◌∙◌, arith}
use Rattle.std.specs.Prelude.{not, slice_get, drop, Some, None}
use Rattle.std.specs.Option.{option_map}
use Rattle.std.specs.declared.option.Option.{Option}
use Rattle.std.proofs.lemmas.Bool.{cases_Bool, cases_eq, eq-eqb, ne_eqb, true≢false, false≢true}
use Rattle.std.proofs.lemmas.List.{length-map, length-drop}
use Rattle.std.proofs.lemmas.Option.{slice_get-map}
use Rattle.strand_buffer.specs.declared.entry.Entry.{Entry}
use Rattle.strand_buffer.specs.declared.entry.Stage.{Stage}
use Rattle.strand_buffer.specs.declared.entry.Stage.TheVariants.{Sent, Released}
use Rattle.strand_buffer.specs.Entries.{from_open, trimmed, is_open, entry_is, passes, epoch_at, epoch_in, word_at, word_in}
use Rattle.strand_buffer.specs.Buffers.{with_stage}
use Rattle.strand_buffer.specs.Ring.{IsRing}

-- an entry that is durable isn't left
pub trim_past : (es : List Entry) (k : ℕ) → k < length es → entry_is is_open es k ≡ false → trimmed (drop (suc k) es) ≡ trimmed (drop k es)
trim_past [] k lt h = absurd (omega arith)
trim_past (e ∷ es) zero lt h = rw h refl
trim_past (e ∷ es) (suc k) lt h = trim_past es k (omega arith) h

-- from an entry on that isn't durable all are left
pub trim_here : (es : List Entry) (k : ℕ) → entry_is is_open es k ≡ true → trimmed (drop k es) ≡ drop k es
trim_here [] k h = absurd (false≢true h)
trim_here (e ∷ es) zero h = rw h refl
trim_here (e ∷ es) (suc k) h = trim_here es k h

-- the stage leaves the rest
stage_epoch : (stage : Stage) (number : ℕ) (e : Entry) → (with_stage stage number e).epoch ≡ e.epoch
stage_epoch stage number e = elim (cases_eq e.number number) [ inl same ↦ rw (eq-eqb e.number number same) refl | inr other ↦ rw (ne_eqb e.number number other) refl ]

stage_word : (stage : Stage) (number : ℕ) (e : Entry) → (with_stage stage number e).word ≡ e.word
stage_word stage number e = elim (cases_eq e.number number) [ inl same ↦ rw (eq-eqb e.number number same) refl | inr other ↦ rw (ne_eqb e.number number other) refl ]

sent_open : (number : ℕ) (e : Entry) → is_open e ≡ true → is_open (with_stage Sent number e) ≡ true
sent_open number e h = elim (cases_eq e.number number) [ inl same ↦ rw (eq-eqb e.number number same) refl | inr other ↦ rw (ne_eqb e.number number other) h ]

stage_epoch_in : (stage : Stage) (number : ℕ) (o : Option Entry) → epoch_in (option_map (with_stage stage number) o) ≡ epoch_in o
stage_epoch_in stage number None = refl
stage_epoch_in stage number (Some e) = stage_epoch stage number e

stage_word_in : (stage : Stage) (number : ℕ) (o : Option Entry) → word_in (option_map (with_stage stage number) o) ≡ word_in o
stage_word_in stage number None = refl
stage_word_in stage number (Some e) = stage_word stage number e

sent_passes : (number : ℕ) (o : Option Entry) → passes is_open o ≡ true → passes is_open (option_map (with_stage Sent number) o) ≡ true
sent_passes number None h = h
sent_passes number (Some e) h = sent_open number e h

pub epochs_staged : (stage : Stage) (number : ℕ) (es : List Entry) (i : ℕ) → epoch_at (map (with_stage stage number) es) i ≡ epoch_at es i
epochs_staged stage number es i = ap epoch_in (slice_get-map (with_stage stage number) es i) ∙ stage_epoch_in stage number (slice_get es i)

pub words_staged : (stage : Stage) (number : ℕ) (es : List Entry) (i : ℕ) → word_at (map (with_stage stage number) es) i ≡ word_at es i
words_staged stage number es i = ap word_in (slice_get-map (with_stage stage number) es i) ∙ stage_word_in stage number (slice_get es i)

pub ring_sent : (number : ℕ) (es : List Entry) → IsRing es → IsRing (map (with_stage Sent number) es)
ring_sent number es ring = record {
  first = λ some. ap (passes is_open) (slice_get-map (with_stage Sent number) es 0) ∙ sent_passes number (slice_get es 0) (ring.first (omega (arith, some, length-map es (with_stage Sent number))));
  ascending = λ h i le lt. let up = ring.ascending h i le (omega (arith, lt, length-map es (with_stage Sent number))) in omega (arith, up, epochs_staged Sent number es h, epochs_staged Sent number es i);
}

-- what is left is the end of the list
pub open_drop : {X : Type 0} (done : X → Bool) (xs : List X) → (k : ℕ) × (k ≤ length xs) × (from_open done xs ≡ drop k xs)
open_drop done [] = (0, omega arith, refl)
open_drop done (x ∷ xs) = elim (cases_Bool (done x)) [
  | inl yes_ ↦ let rest = open_drop done xs in (suc rest.0, (let le = rest.1 in omega (arith, le)), rw yes_ rest.2)
  | inr no_ ↦ (0, omega arith, rw no_ refl)
]

pub get_drop : {X : Type 0} (k i : ℕ) (xs : List X) → slice_get (drop k xs) i ≡ slice_get xs (k + i)
get_drop zero i xs = let e : 0 + i ≡ i = omega arith in ap (slice_get xs) (sym e)
get_drop (suc k) i [] = refl
get_drop (suc k) i (x ∷ xs) = let e : suc k + i ≡ suc (k + i) = omega arith in rw e (get_drop k i xs)

-- the first element that is left isn't done
open_first : {X : Type 0} (done : X → Bool) (xs ys : List X) (y : X) → from_open done xs ≡ y ∷ ys → done y ≡ false
open_first done [] ys y e = absurd (cc e)
open_first done (x ∷ xs) ys y e = elim (cases_Bool (done x)) [ inl yes_ ↦ open_first done xs ys y (rw yes_ at e) | inr no_ ↦ (let same : x ∷ xs ≡ y ∷ ys = rw no_ at e in let first : x ≡ y = cc in ap done (sym first) ∙ no_) ]

first_open : (es : List Entry) → 0 < length (trimmed es) → entry_is is_open (trimmed es) 0 ≡ true
first_open es some = go (trimmed es) refl some
  where
    go : (xs : List Entry) → trimmed es ≡ xs → 0 < length xs → entry_is is_open xs 0 ≡ true
    go [] e lt = absurd (omega arith)
    go (x ∷ xs) e lt = opened (is_open x) (open_first (λ e. not (is_open e)) es xs x e)
      where
        opened : (b : Bool) → not b ≡ false → b ≡ true
        opened true h = refl
        opened false h = absurd (true≢false h)

ring_trimmed : (es : List Entry) → ((h i : ℕ) → h ≤ i → i < length es → epoch_at es h ≤ epoch_at es i) → IsRing (trimmed es)
ring_trimmed es up =
    let cut = open_drop (λ e. not (is_open e)) es in
    let size : length (trimmed es) ≡ length es - cut.0 = ap length cut.2 ∙ length-drop cut.0 es in
    let at : (i : ℕ) → epoch_at (trimmed es) i ≡ epoch_at es (cut.0 + i) = λ i. ap (λ xs. epoch_at xs i) cut.2 ∙ ap epoch_in (get_drop cut.0 i es) in
    record {
      first = first_open es;
      ascending = λ h i le lt. let more = up (cut.0 + h) (cut.0 + i) (omega (arith, le)) (omega (arith, lt, size, cut.1)) in omega (arith, more, at h, at i);
    }

pub ring_released : (number : ℕ) (es : List Entry) → IsRing es → IsRing (trimmed (map (with_stage Released number) es))
ring_released number es ring = ring_trimmed (map (with_stage Released number) es) (λ h i le lt.
    let up = ring.ascending h i le (omega (arith, lt, length-map es (with_stage Released number))) in omega (arith, up, epochs_staged Released number es h, epochs_staged Released number es i))
