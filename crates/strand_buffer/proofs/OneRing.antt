-- Serves StrandBuffers::new, accept, sent, release and eligible: the buffers with one ring changed.
use Rattle.std.proofs.Common.{◌≡◌, ℕ, zero, suc, ◌+◌, ◌-◌, ◌<◌, inl, inr, List, [], ◌∷◌, ◌++◌, length, map, refl, sym, ap, subst, ◌∙◌, arith}
use Rattle.std.specs.Prelude.{not, replicate, slice_index_or, slice_set, ◌%◌, Some, None}
use Rattle.std.specs.declared.option.Option.{Option}
use Rattle.std.proofs.lemmas.Bool.{cases_eq}
use Rattle.std.proofs.lemmas.List.{length-set, length-map, length-drop, map-set, get_or-set_same, get_or-set_other, get_or_default}
use Rattle.strand_buffer.specs.declared.entry.Entry.{Entry}
use Rattle.strand_buffer.specs.declared.entry.Stage.{Stage}
use Rattle.strand_buffer.specs.declared.entry.Stage.TheVariants.{Buffered}
use Rattle.strand_buffer.specs.Entries.{trimmed, is_open, epoch_at, epoch_in}
use Rattle.strand_buffer.specs.Buffers.{Buffers, with_stage, accepted, current}
use Rattle.strand_buffer.specs.Ring.{RingSeen}
use Rattle.strand_buffer.specs.KeptBuffers.{no_ring, empty_ring, IsUpTo, AreKeptRings, entries_in, entries_of}
use Rattle.strand_buffer.proofs.EntryStages.{epochs_staged, open_drop, get_drop}

-- the list of a buffer by the buffers' rings
list_at : (rings : List RingSeen) (b : ℕ) → slice_index_or (map entries_of rings) b [] ≡ entries_in rings b
list_at [] b = refl
list_at (r ∷ rings) zero = refl
list_at (r ∷ rings) (suc b) = list_at rings b

-- a buffer of the lists has a ring
pub ring_there : (rings : List RingSeen) (ls : List (List Entry)) (b : ℕ) → map entries_of rings ≡ ls → b < length ls → b < length rings
ring_there rings ls b lists lt = omega (arith, lt, ap length lists, length-map rings entries_of)

-- the entries of the ring that is found
pub ring_list : (rings : List RingSeen) (b : ℕ) (r : RingSeen) → b < length rings → r ≡ slice_index_or rings b r → r.entries ≡ slice_index_or (map entries_of rings) b []
ring_list rings b r lt at = ap entries_of (at ∙ get_or_default rings b r no_ring lt) ∙ sym (list_at rings b)

list_set : (rings : List RingSeen) (b : ℕ) (r : RingSeen) → map entries_of (slice_set rings b r) ≡ slice_set (map entries_of rings) b r.entries
list_set rings b r = map-set entries_of rings b r

-- one ring more or less full keeps what is kept
pub kept_with : (ring strand : ℕ) (rings : List RingSeen) (epoch : Option ℕ) (b : ℕ) (r : RingSeen) → AreKeptRings ring strand rings epoch → b < length rings → r.room ≡ (slice_index_or rings b no_ring).room
    → (IsUpTo (entries_in rings b) epoch → IsUpTo r.entries epoch) → AreKeptRings ring strand (slice_set rings b r) epoch
kept_with ring strand rings epoch b r kept lt room upto = record {
  some = omega (arith, kept.some, length-set rings b r);
  few = omega (arith, kept.few, length-set rings b r);
  small = kept.small;
  rooms = λ i within. elim (cases_eq i b) [
    | inl e ↦ ap (λ j. (slice_index_or (slice_set rings b r) j no_ring).room) e ∙ ap (λ (x : RingSeen). x.room) (get_or-set_same rings b r no_ring lt) ∙ room ∙ kept.rooms b lt
    | inr ne ↦ ap (λ (x : RingSeen). x.room) (get_or-set_other rings b i r no_ring ne) ∙ kept.rooms i (omega (arith, within, length-set rings b r))
  ];
  latest = rw (length-set rings b r) (elim (cases_eq (strand % length rings) b) [
    | inl e ↦ subst (λ (x : RingSeen). IsUpTo x.entries epoch) (sym (ap (λ i. slice_index_or (slice_set rings b r) i no_ring) e ∙ get_or-set_same rings b r no_ring lt)) (upto (subst (λ i. IsUpTo (entries_in rings i) epoch) e kept.latest))
    | inr ne ↦ subst (λ (x : RingSeen). IsUpTo x.entries epoch) (sym (get_or-set_other rings b (strand % length rings) r no_ring ne)) kept.latest
  ]);
}

-- a stage changes no epoch
pub upto_staged : (stage : Stage) (number : ℕ) (es : List Entry) (epoch : Option ℕ) → IsUpTo es epoch → IsUpTo (map (with_stage stage number) es) epoch
upto_staged stage number es None h = rw h refl
upto_staged stage number es (Some e) h = λ i lt. let most = h i (omega (arith, lt, length-map es (with_stage stage number))) in omega (arith, most, epochs_staged stage number es i)

-- fewer entries keep the bound
pub upto_trimmed : (es : List Entry) (epoch : Option ℕ) → IsUpTo es epoch → IsUpTo (trimmed es) epoch
upto_trimmed es None h = rw h refl
upto_trimmed es (Some e) h = λ i lt.
    let cut = open_drop (λ x. not (is_open x)) es in
    let size : length (trimmed es) ≡ length es - cut.0 = ap length cut.2 ∙ length-drop cut.0 es in
    let at : epoch_at (trimmed es) i ≡ epoch_at es (cut.0 + i) = ap (λ xs. epoch_at xs i) cut.2 ∙ ap epoch_in (get_drop cut.0 i es) in
    let most = h (cut.0 + i) (omega (arith, lt, size, cut.1)) in
    omega (arith, most, at)

-- the same where the new ring is the old one with other entries
module _ (rings : List RingSeen) (b : ℕ) (old new : RingSeen) (es : List Entry) (lt : b < length rings) (at : old ≡ slice_index_or rings b old) (is : new ≡ record old { entries = es }) where
  old_is : old ≡ slice_index_or rings b no_ring
  old_is = at ∙ get_or_default rings b old no_ring lt

  pub changed_kept : (ring strand : ℕ) (epoch : Option ℕ) → AreKeptRings ring strand rings epoch → (IsUpTo old.entries epoch → IsUpTo es epoch) → AreKeptRings ring strand (slice_set rings b new) epoch
  changed_kept ring strand epoch kept upto =
      kept_with ring strand rings epoch b new kept lt (ap (λ (r : RingSeen). r.room) is ∙ ap (λ (r : RingSeen). r.room) old_is)
      (λ h. subst (λ (xs : List Entry). IsUpTo xs epoch) (sym (ap (λ (r : RingSeen). r.entries) is)) (upto (subst (λ (r : RingSeen). IsUpTo r.entries epoch) (sym old_is) h)))

  pub changed_list : map entries_of (slice_set rings b new) ≡ slice_set (map entries_of rings) b es
  changed_list = list_set rings b new ∙ ap (slice_set (map entries_of rings) b) (ap (λ (r : RingSeen). r.entries) is)

  pub old_list : old.entries ≡ slice_index_or (map entries_of rings) b []
  old_list = ring_list rings b old lt at

pub with_lists : (bs : Buffers) (ls ls' : List (List Entry)) → ls ≡ ls' → record bs { lists = ls } ≡ record bs { lists = ls' }
with_lists bs ls ls' e = ap (λ (x : List (List Entry)). record bs { lists = x }) e

-- a persist accepted by one ring is accepted by the buffers
pub accepted_as : (bs : Buffers) (rings : List RingSeen) (b : ℕ) (old new : RingSeen) (number word value epoch : ℕ) (wait : List ℕ) → bs.lists ≡ map entries_of rings → b ≡ current bs → b < length rings → old ≡ slice_index_or rings b old
    → new ≡ record old { entries = old.entries ++ record { number = number; word = word; value = value; epoch = epoch; wait = wait; stage = Buffered } ∷ [] }
    → record bs { lists = map entries_of (slice_set rings b new); number = Some number; epoch = Some epoch } ≡ accepted bs number word value epoch wait
accepted_as bs rings b old new number word value epoch wait lists at lt was is =
    let entry : Entry = record { number = number; word = word; value = value; epoch = epoch; wait = wait; stage = Buffered } in
    let same : map entries_of (slice_set rings b new) ≡ slice_set bs.lists (current bs) (slice_index_or bs.lists (current bs) [] ++ entry ∷ []) =
    changed_list rings b old new (old.entries ++ entry ∷ []) lt was is
    ∙ ap (λ xs. slice_set (map entries_of rings) b (xs ++ entry ∷ [])) (old_list rings b old new (old.entries ++ entry ∷ []) lt was is)
    ∙ ap (λ ls. slice_set ls b (slice_index_or ls b [] ++ entry ∷ [])) (sym lists)
    ∙ ap (λ i. slice_set bs.lists i (slice_index_or bs.lists i [] ++ entry ∷ [])) at in
    ap (λ (x : List (List Entry)). record bs { lists = x; number = Some number; epoch = Some epoch }) same

pub empty_lists : (n room : ℕ) → map entries_of (replicate n (empty_ring room)) ≡ replicate n []
empty_lists zero room = refl
empty_lists (suc n) room = ap (λ (ls : List (List Entry)). [] ∷ ls) (empty_lists n room)
