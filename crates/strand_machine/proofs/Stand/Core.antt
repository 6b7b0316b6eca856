-- Serves clause parts of Machine::step: what the parts hold for a state whose trace has one event more.
use Rattle.std.proofs.Common.{◌≡◌, ℕ, ◌+◌, ◌<◌, ◌≤◌, Bool, true, false, ◌&&◌, inl, inr, List, [], ◌∷◌, ◌++◌, length, map, refl, sym, ap, subst, ◌∙◌, arith}
use Rattle.std.specs.Prelude.{◌==◌, ◌^◌, nat_lt, drop, slice_get, slice_set, slice_index, Some, None, if◌then◌else◌}
use Rattle.std.specs.Option.{option_map, unwrap_or}
use Rattle.std.specs.declared.option.Option.{Option}
use Rattle.std.proofs.lemmas.Bool.{cases_Bool, cases_eq, and_parts, eqb-true, eq-eqb, ne_eqb, ltb-true, false_from_ne_true}
use Rattle.std.proofs.lemmas.List.{length-set, map-append, append-nil, drop-append-le}
use Rattle.strand_base.specs.Counting.{count_below}
use Rattle.strand_base.proofs.BelowBound.{count_agree, count_no, count_mono, list_get, list_length, get_last, get_more}
use Rattle.strand_exec.specs.Core as cores
use Rattle.strand_exec.specs.Core.{Extents}
use Rattle.strand_exec.specs.Memory.{Memory}
use Rattle.strand_inputs.specs.Settings.{Settings}
use Rattle.strand_events.specs.declared.event.Event.{Event}
use Rattle.strand_events.specs.Trace.{passes, value_in, is_access, is_persist, is_barrier, is_new_strand, core_of, word_of, core_at, value_at, event_is, core_event_is, strand_number, epoch, persist_number}
use Rattle.strand_events.proofs.LongerTrace.{event_is_kept, core_kept, word_kept, core_event_kept, number_kept, epoch_kept}
use Rattle.strand_rules.specs.Cycle.{State, is_item, items, gone, is_dispatched, is_accepted}
use Rattle.strand_rules.specs.Looking.{next_strand}
use Rattle.strand_rules.proofs.Order.Sets.Event.{items_kept, length_grown}
use Rattle.strand_buffer.specs.Buffers.{Buffers}
use Rattle.strand_machine.specs.Lists.{begun}
use Rattle.strand_machine.specs.Stand.{item_of, queue_items, request_at, requests, last_below, last_number, last_epoch, last_access, BuffersStand, TagsStand}
use Rattle.strand_exec.specs.Plan.{IsWord}
use Rattle.strand_inputs.specs.declared.mode.Mode.{Mode}
use Rattle.strand_inputs.specs.declared.mode.Mode.TheVariants.{Strict, Epoch, Strand}
use Rattle.strand_tags.specs.Access.{Noted, noted_as}
use Rattle.strand_tags.specs.TagsSeen.{TagsSeen, StandFor, CanAsk}
use Rattle.strand_events.specs.Prefixes.{made_below}
use Rattle.strand_tags.specs.Traces.{noted_accesses, noted_wait}
use Rattle.strand_machine.proofs.Stand.SendWrite.{at_set, at_other}
use Rattle.strand_rules.proofs.Next.{core_new, number_new}
use Rattle.strand_tags.proofs.LongerTrace.{list_grown, other_unnoted}
use Rattle.strand_machine.proofs.Stand.Counts.{next_access, next_most, noted_grown, own_count}
use Rattle.strand_machine.proofs.Lists.Queue.{get_drop}
use Rattle.strand_machine.proofs.Lists.SendWrite.{map_on}
use Rattle.strand_machine.proofs.Lists.Event.{entries_longer}
use Rattle.strand_machine.proofs.LastBelow.{last_agree, last_found}

module _ (g : Settings) (s : State) (e : Event) (cs : List cores.Core) (memory : Memory) (retired : List ℕ)
    (within : (core : ℕ) → gone s core ≤ count_below (length s.now.trace) (core_event_is (is_item g.mode) core s.now.trace)) where
  abbrev t : List Event
  t = s.now.trace

  -- the state with the event at the end of its trace
  abbrev pub longer : State
  longer = record s { now = record { cores = cs; memory = memory; trace = s.now.trace ++ e ∷ [] }; retired = retired; buffered = s.buffered ++ false ∷ []; durable = s.durable ++ false ∷ [] }

  abbrev taken : State → (Event → Bool) → ℕ → ℕ → Bool
  taken x test n i = is_dispatched g x n i && event_is test x.now.trace i

  taken_kept : (test : Event → Bool) (n i : ℕ) → i < length t → taken longer test n i ≡ taken s test n i
  taken_kept test n i lt = cc (
    core_event_kept t e (is_item g.mode) n i lt,
    count_agree i (core_event_is (is_item g.mode) n (t ++ e ∷ [])) (core_event_is (is_item g.mode) n t) (λ k below. core_event_kept t e (is_item g.mode) n k (omega arith)),
    event_is_kept t e test i lt,
  )

  -- the new event wasn't dispatched
  taken_new : (test : Event → Bool) (n : ℕ) → taken longer test n (length t) ≡ false
  taken_new test n = false_from_ne_true (taken longer test n (length t)) (λ h.
      let one = and_parts (is_dispatched g longer n (length t)) (event_is test (t ++ e ∷ []) (length t)) h in
      let two = and_parts (core_event_is (is_item g.mode) n (t ++ e ∷ []) (length t)) (nat_lt (count_below (length t) (core_event_is (is_item g.mode) n (t ++ e ∷ []))) (gone s n)) one.0 in
      let below = ltb-true (count_below (length t) (core_event_is (is_item g.mode) n (t ++ e ∷ []))) (gone s n) two.1 in
      omega (arith, below, items_kept g.mode t e n, within n))

  -- a last one, or a count, of those that were dispatched stays
  last_longer : (f h : ℕ → Bool) → f (length t) ≡ false → ((k : ℕ) → k < length t → f k ≡ h k) → last_below (length (t ++ e ∷ [])) f ≡ last_below (length t) h
  last_longer f h none same = rw (length_grown t e, none) (last_agree (length t) f h same)

  begun_longer : (n : ℕ) → begun g longer n ≡ begun g s n
  begun_longer n = rw (length_grown t e) (count_no (length t) (taken longer is_new_strand n) (taken_new is_new_strand n) ∙ count_agree (length t) (taken longer is_new_strand n) (taken s is_new_strand n) (λ k lt. taken_kept is_new_strand n k lt))

  number_longer : (k : ℕ) → k < length t → persist_number (t ++ e ∷ []) k ≡ persist_number t k
  number_longer k lt = count_agree k (event_is is_persist (t ++ e ∷ [])) (event_is is_persist t) (λ i below. event_is_kept t e is_persist i (omega arith))

  value_longer : (k : ℕ) → k < length t → value_at (t ++ e ∷ []) k ≡ value_at t k
  value_longer k lt = ap value_in (get_more t e k lt)

  map_last : (f h : ℕ → ℕ) (n : ℕ) (test : ℕ → Bool) → ((k : ℕ) → k < n → f k ≡ h k) → option_map f (last_below n test) ≡ option_map h (last_below n test)
  map_last f h n test same = go (last_below n test) refl
    where
      go : (o : Option ℕ) → last_below n test ≡ o → option_map f o ≡ option_map h o
      go None at = refl
      go (Some k) at = ap (λ x. Some x) (same k ((last_found n k test at).0))

  last_number_longer : (n : ℕ) → last_number g longer n ≡ last_number g s n
  last_number_longer n =
      ap (option_map (persist_number (t ++ e ∷ []))) (last_longer (is_accepted g longer n) (is_accepted g s n) (taken_new is_persist n) (λ k lt. taken_kept is_persist n k lt))
      ∙ map_last (persist_number (t ++ e ∷ [])) (persist_number t) (length t) (is_accepted g s n) number_longer

  last_epoch_longer : (n : ℕ) → last_epoch g longer n ≡ last_epoch g s n
  last_epoch_longer n =
      let new : ℕ → Bool = λ p. is_accepted g longer n p && (strand_number g.mode (t ++ e ∷ []) p == begun g longer n) in
      let old : ℕ → Bool = λ p. is_accepted g s n p && (strand_number g.mode t p == begun g s n) in
      ap (option_map (epoch g.mode (t ++ e ∷ []))) (last_longer new old (rw (taken_new is_persist n) refl) (λ k lt. cc (taken_kept is_persist n k lt, number_kept t e g.mode k lt, begun_longer n)))
      ∙ map_last (epoch g.mode (t ++ e ∷ [])) (epoch g.mode t) (length t) old (λ k lt. epoch_kept t e g.mode k lt)

  -- the buffers stay
  pub buffers_longer : (n : ℕ) (bs : Buffers) → BuffersStand g s n bs → BuffersStand g longer n bs
  buffers_longer n bs stand = record {
    ring = stand.ring;
    buffers = stand.buffers;
    strand = stand.strand ∙ sym (begun_longer n);
    lists = λ b lt. stand.lists b lt ∙ sym (entries_longer g t e s.dispatched s.buffered s.flight s.durable within n b);
    number = stand.number ∙ sym (last_number_longer n);
    epoch = stand.epoch ∙ sym (last_epoch_longer n);
  }

  item_longer : (k : ℕ) → k < length t → item_of g longer k ≡ item_of g s k
  item_longer k lt = cc (event_is_kept t e is_persist k lt, event_is_kept t e is_barrier k lt, number_longer k lt, word_kept t e k lt, value_longer k lt, epoch_kept t e g.mode k lt)

  -- a new item stands at the end of its core's queue
  pub queue_longer : (n : ℕ) → queue_items g longer n ≡ queue_items g s n ++ (if is_item g.mode e && (core_of e == n) then item_of g longer (length t) ∷ [] else [])
  queue_longer n =
      let old : List ℕ = items g.mode t n in
      let enough : gone s n ≤ length old = omega (arith, within n, list_length (length t) (core_event_is (is_item g.mode) n t)) in
      let last : core_event_is (is_item g.mode) n (t ++ e ∷ []) (length t) ≡ is_item g.mode e && (core_of e == n) = cc (ap (passes (is_item g.mode)) (get_last t e), core_new t e) in
      let grown : items g.mode (t ++ e ∷ []) n ≡ (if is_item g.mode e && (core_of e == n) then old ++ length t ∷ [] else old) =
      list_grown t e (core_event_is (is_item g.mode) n (t ++ e ∷ [])) (core_event_is (is_item g.mode) n t) (λ k lt. core_event_kept t e (is_item g.mode) n k lt)
      ∙ ap (λ x. if x then old ++ length t ∷ [] else old) last in
      let same : map (item_of g longer) (drop (gone s n) old) ≡ queue_items g s n = map_items (drop (gone s n) old) (λ i q at. item_longer q ((list_get (length t) (core_event_is (is_item g.mode) n t) (gone s n + i) q (sym (get_drop (gone s n) i old) ∙ at)).0)) in
      ap (λ xs. map (item_of g longer) (drop (gone s n) xs)) grown ∙ (elim (cases_Bool (is_item g.mode e && (core_of e == n))) [
        | inl yes_ ↦ rw yes_ (ap (map (item_of g longer)) (drop-append-le (gone s n) old (length t ∷ []) enough) ∙ map-append (item_of g longer) (drop (gone s n) old) (length t ∷ []) ∙ ap (λ xs. xs ++ item_of g longer (length t) ∷ []) same)
        | inr no_ ↦ rw no_ (same ∙ sym (append-nil (queue_items g s n)))
      ])
    where
      map_items : (xs : List ℕ) → ((i q : ℕ) → slice_get xs i ≡ Some q → item_of g longer q ≡ item_of g s q) → map (item_of g longer) xs ≡ map (item_of g s) xs
      map_items xs each = map_on (item_of g longer) (item_of g s) xs each

  -- the requests in flight stay
  pub requests_longer : ((i p : ℕ) → slice_get s.flight i ≡ Some p → p < length t) → requests g longer ≡ requests g s
  requests_longer inside = map_on (request_at g longer) (request_at g s) s.flight (λ i p at.
      let lt = inside i p at in cc (core_kept t e p lt, number_kept t e g.mode p lt, number_longer p lt, word_kept t e p lt, value_longer p lt))

  made_longer : (n end : ℕ) → end ≤ length t → made_below (t ++ e ∷ []) n end ≡ made_below t n end
  made_longer n end le = count_agree end (core_event_is is_persist n (t ++ e ∷ [])) (core_event_is is_persist n t) (λ k lt. core_event_kept t e is_persist n k (omega arith))

  access_last : (n : ℕ) → core_event_is is_access n (t ++ e ∷ []) (length t) ≡ is_access e && (core_of e == n)
  access_last n = cc (ap (passes is_access) (get_last t e), core_new t e)

  -- a core's last access stays, where the new event is none of its
  access_longer : (n : ℕ) → (is_access e && (core_of e == n)) ≡ false → last_access (t ++ e ∷ []) n ≡ last_access t n
  access_longer n none = last_longer (core_event_is is_access n (t ++ e ∷ [])) (core_event_is is_access n t) (access_last n ∙ none) (λ k lt. core_event_kept t e is_access n k lt)

  access_own : is_access e ≡ true → last_access (t ++ e ∷ []) (core_of e) ≡ Some (length t)
  access_own is = rw (length_grown t e, access_last (core_of e), is, eq-eqb (core_of e) (core_of e) refl) refl

  strand_longer : (n : ℕ) → (is_access e && (core_of e == n)) ≡ false
      → option_map (strand_number g.mode (t ++ e ∷ [])) (last_access (t ++ e ∷ []) n) ≡ option_map (strand_number g.mode t) (last_access t n)
  strand_longer n none = ap (option_map (strand_number g.mode (t ++ e ∷ []))) (access_longer n none) ∙ map_last (strand_number g.mode (t ++ e ∷ [])) (strand_number g.mode t) (length t) (core_event_is is_access n t) (λ k lt. number_kept t e g.mode k lt)

  counts_longer : (n : ℕ) → (is_access e && (core_of e == n)) ≡ false
      → option_map (λ a. made_below (t ++ e ∷ []) n (a + 1)) (last_access (t ++ e ∷ []) n) ≡ option_map (λ a. made_below t n (a + 1)) (last_access t n)
  counts_longer n none = ap (option_map (λ a. made_below (t ++ e ∷ []) n (a + 1))) (access_longer n none) ∙ map_last (λ a. made_below (t ++ e ∷ []) n (a + 1)) (λ a. made_below t n (a + 1)) (length t) (core_event_is is_access n t) (λ k lt. made_longer n (k + 1) (omega arith))

  module _ (x : Extents) (same_cores : length cs ≡ length s.now.cores) (tags : TagsSeen) (stand : TagsStand g x s tags) where
    -- an event that is no access leaves the tags
    pub tags_same : is_access e ≡ false → TagsStand g x longer tags
    tags_same no_ = record {
      extents = stand.extents;
      cores = stand.cores ∙ sym same_cores;
      accesses = subst (StandFor tags) (sym (other_unnoted t e g.conflict g.mode no_)) stand.accesses;
      strands = λ n lt. stand.strands n (omega (arith, lt, same_cores)) ∙ ap (λ o. unwrap_or o 0) (sym (strand_longer n (rw no_ refl)));
      made = λ n lt. stand.made n (omega (arith, lt, same_cores)) ∙ ap (λ o. unwrap_or o 0) (sym (counts_longer n (rw no_ refl)));
    }

    abbrev own_made : ℕ
    own_made = made_below t (core_of e) (length t) + (if is_persist e then 1 else 0)

    -- an access that is noted: this is what the call of the tags leaves
    pub tags_noted : (tags' : TagsSeen) → is_access e ≡ true → core_of e < length s.now.cores → tags'.extents ≡ tags.extents
        → tags'.strands ≡ slice_set tags.strands (core_of e) (next_strand g.mode t (core_of e)) → tags'.made ≡ slice_set tags.made (core_of e) own_made → length tags.made ≡ length tags.strands
        → ((ns : List Noted) → StandFor tags ns → StandFor tags' (ns ++ noted_as (next_access g.mode t e) own_made (noted_wait g.conflict g.mode (t ++ e ∷ []) (length t)) ∷ [])) → TagsStand g x longer tags'
    tags_noted tags' is there extents strands made size noted = record {
      extents = extents ∙ stand.extents;
      cores = ap length strands ∙ length-set tags.strands (core_of e) (next_strand g.mode t (core_of e)) ∙ stand.cores ∙ sym same_cores;
      accesses = subst (StandFor tags') (sym (noted_grown t e g.conflict g.mode is)) (noted (noted_accesses g.conflict g.mode t) stand.accesses);
      strands = λ n lt. ap (λ xs. slice_index xs n) strands ∙ (elim (cases_eq n (core_of e)) [
        | inl same ↦
            ap (slice_index (slice_set tags.strands (core_of e) (next_strand g.mode t (core_of e)))) same
            ∙ at_set tags.strands (core_of e) (next_strand g.mode t (core_of e)) 0 (omega (arith, there, stand.cores))
            ∙ sym (number_new g.mode t e)
            ∙ sym (ap (λ o. unwrap_or (option_map (strand_number g.mode (t ++ e ∷ [])) o) 0) (ap (last_access (t ++ e ∷ [])) same ∙ access_own is))
        | inr ne ↦
            at_other tags.strands (core_of e) n (next_strand g.mode t (core_of e)) 0 ne ∙ stand.strands n (omega (arith, lt, same_cores))
            ∙ ap (λ o. unwrap_or o 0) (sym (strand_longer n (rw (is, ne_eqb (core_of e) n (λ e'. ne (sym e'))) refl)))
      ]);
      made = λ n lt. ap (λ xs. slice_index xs n) made ∙ (elim (cases_eq n (core_of e)) [
        | inl same ↦
            ap (slice_index (slice_set tags.made (core_of e) own_made)) same
            ∙ at_set tags.made (core_of e) own_made 0 (omega (arith, there, stand.cores, size))
            ∙ sym (own_count t e)
            ∙ sym (ap (λ o. unwrap_or (option_map (λ a. made_below (t ++ e ∷ []) (core_of e) (a + 1)) o) 0) (access_own is))
            ∙ sym (ap (λ n. unwrap_or (option_map (λ a. made_below (t ++ e ∷ []) n (a + 1)) (last_access (t ++ e ∷ []) n)) 0) same)
        | inr ne ↦
            at_other tags.made (core_of e) n own_made 0 ne ∙ stand.made n (omega (arith, lt, same_cores))
            ∙ ap (λ o. unwrap_or o 0) (sym (counts_longer n (rw (is, ne_eqb (core_of e) n (λ e'. ne (sym e'))) refl)))
      ]);
    }

    -- and that the next access can be asked and noted
    pub can_ask : core_of e < length s.now.cores → IsWord x (word_of e) → length t < 2 ^ 32 → CanAsk tags (next_access g.mode t e)
    can_ask there word small = record {
      core = omega (arith, there, stand.cores);
      word = subst (λ y. IsWord y (word_of e)) (sym stand.extents) word;
      strand = omega (arith, stand.strands (core_of e) there, strand_most (last_access t (core_of e)) refl);
      small = omega (arith, small, next_most g.mode t (core_of e));
    }
      where
        number_next : (mode : Mode) (a : ℕ) → core_at t a ≡ core_of e → a ≤ length t → strand_number mode t a ≤ next_strand mode t (core_of e)
        number_next Strict a c le = omega arith
        number_next Epoch a c le = omega arith
        number_next Strand a c le = rw c (count_mono a (length t) (core_event_is is_new_strand (core_of e) t) le)

        strand_most : (o : Option ℕ) → last_access t (core_of e) ≡ o → unwrap_or (option_map (strand_number g.mode t) o) 0 ≤ next_strand g.mode t (core_of e)
        strand_most None at = omega arith
        strand_most (Some a) at =
            let r = last_found (length t) a (core_event_is is_access (core_of e) t) at in
            number_next g.mode a (eqb-true (core_at t a) (core_of e) ((and_parts (event_is is_access t a) (core_at t a == core_of e) r.1).1)) (omega (arith, r.0))

    pub can_note : core_of e < length s.now.cores → slice_index tags.made (core_of e) ≤ own_made
    can_note there = omega (arith, stand.made (core_of e) there, made_most (last_access t (core_of e)) refl)
      where
        made_most : (o : Option ℕ) → last_access t (core_of e) ≡ o → unwrap_or (option_map (λ a. made_below t (core_of e) (a + 1)) o) 0 ≤ own_made
        made_most None at = omega arith
        made_most (Some a) at =
            let r = last_found (length t) a (core_event_is is_access (core_of e) t) at in
            omega (arith, count_mono (a + 1) (length t) (core_event_is is_persist (core_of e) t) (let lt = r.0 in omega (arith, lt)))
