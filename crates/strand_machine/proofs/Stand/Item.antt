-- Serves clause parts of Machine::step: the parts stand for the state after a dispatch.
use Rattle.std.proofs.Common.{◌≡◌, ℕ, ◌+◌, ◌<◌, ◌≤◌, Bool, true, false, ◌&&◌, inl, inr, List, [], ◌∷◌, ◌++◌, length, refl, sym, ap, subst, ◌∙◌, arith}
use Rattle.std.specs.Prelude.{◌==◌, nat_lt, drop, slice_get, slice_set, slice_index_or, Some, None, MatchOption}
use Rattle.std.specs.Option.{option_map}
use Rattle.std.specs.declared.option.Option.{Option}
use Rattle.std.proofs.lemmas.Bool.{cases_Bool, cases_eq, and_parts, and_from, eqb-true, eq-eqb, lt-ltb, le-ltb, false_from_ne_true}
use Rattle.std.proofs.lemmas.List.{length-set, length-map}
use Rattle.std.proofs.lemmas.Nat.{mod_below}
use Rattle.std.proofs.lemmas.Option.{slice_get-map, slice_get-get_or, slice_get_within, same_Some}
use Rattle.strand_base.specs.Counting.{count_below}
use Rattle.strand_base.proofs.BelowBound.{count_agree, count_strict}
use Rattle.strand_base.proofs.ListBelow.{list_at}
use Rattle.strand_exec.specs.Core.{Extents}
use Rattle.strand_inputs.specs.Settings.{Settings}
use Rattle.strand_events.specs.Trace.{is_persist, is_barrier, is_new_strand, core_at, word_at, value_at, event_is, core_event_is, strand_number, epoch, persists_of, persist_number}
use Rattle.strand_events.proofs.PersistOrder.Epochs.{epochs_rise, strand_from}
use Rattle.strand_rules.specs.Cycle.{State, is_item, gone, front, is_dispatched, is_accepted, buffer_of, item_after, ring_use}
use Rattle.strand_rules.specs.DispatchedPersists.{AreParts}
use Rattle.strand_rules.proofs.MarkSets.{number_other}
use Rattle.strand_rules.proofs.Front.{found, accepted_past}
use Rattle.strand_rules.proofs.Buffers.Run.{IsFit}
use Rattle.strand_buffer.specs.declared.entry.Entry.{Entry}
use Rattle.strand_buffer.specs.declared.entry.Stage.TheVariants.{Buffered}
use Rattle.strand_buffer.specs.Buffers as buffers
use Rattle.strand_buffer.specs.Buffers.{Buffers, list_in, current, has_room, accepted}
use Rattle.strand_queue.specs.Queue.{Queue, queue}
use Rattle.strand_machine.specs.Lists.{entries, listed, entry_of, begun}
use Rattle.strand_tags.specs.Traces.{noted_wait}
use Rattle.strand_machine.specs.Changed.{taken, wait_at, with_dispatched}
use Rattle.strand_machine.specs.Stand.{BuffersStand, PartsSeen, Stand, Tally, TallyStands, no_buffers, no_queue, queue_at, buffers_at, tally_at, item_of, queue_items, last_below, last_number, last_epoch, persist_waits}
use Rattle.strand_machine.proofs.Stand.Cache.{cache_kept}
use Rattle.strand_machine.proofs.Lists.Room.{numbers_rise, k_core, accepted_core, accepted_earlier, ring_by_list, begun_by_front}
use Rattle.strand_rules.proofs.Buffers.RingItem.{accepted_other, accepted_apart, below_same, one_more}
use Rattle.strand_machine.proofs.Lists.Item.{accepted_own, k_test, entries_accepted, entries_apart, entries_of_others, entries_of_item}
use Rattle.strand_machine.proofs.Lists.Queue.{queue_dispatched, queue_of_others}
use Rattle.strand_machine.proofs.Stand.SendWrite.{at_set, at_other}
use Rattle.strand_machine.proofs.ItemKinds.{item_persist, item_barrier, item_begin, event_persist_begins, event_barrier_begins, event_item_begins}
use Rattle.strand_machine.proofs.LastBelow.{last_agree, last_is, last_none, last_found, count_one}

module _ (g : Settings) (s : State) (n k : ℕ) (first : front g s n ≡ Some k) (there : n < length s.dispatched) where
  abbrev then_ : State
  then_ = item_after s n (Some k)

  abbrev strand : ℕ
  strand = strand_number g.mode s.now.trace k

  abbrev began : State → ℕ → Bool
  began x i = is_dispatched g x n i && event_is is_new_strand s.now.trace i

  dispatched_other : (i : ℕ) → (i ≡ k → ⊥) → is_dispatched g then_ n i ≡ is_dispatched g s n i
  dispatched_other i ne = elim (cases_Bool (core_event_is (is_item g.mode) n s.now.trace i)) [
    | inl yes_ ↦ ap (λ x. core_event_is (is_item g.mode) n s.now.trace i && x) (below_same g s n k first there i ne yes_)
    | inr no_ ↦ rw no_ refl
  ]

  dispatched_own : is_dispatched g then_ n k ≡ true
  dispatched_own = and_from (core_event_is (is_item g.mode) n s.now.trace k) _ (k_test g s n k first there) (lt-ltb (count_below k (core_event_is (is_item g.mode) n s.now.trace)) (gone then_ n) (omega (arith, (found g s n k first).2, one_more g s n k first there)))

  not_before : is_dispatched g s n k ≡ false
  not_before = none_of (core_event_is (is_item g.mode) n s.now.trace k) (nat_lt (count_below k (core_event_is (is_item g.mode) n s.now.trace)) (gone s n)) (le-ltb (count_below k (core_event_is (is_item g.mode) n s.now.trace)) (gone s n) (omega (arith, (found g s n k first).2)))
    where
      none_of : (x y : Bool) → y ≡ false → (x && y) ≡ false
      none_of true y e = e
      none_of false y e = refl

  -- the strand number stays, but where a strand begins
  begun_same : event_is is_new_strand s.now.trace k ≡ false → begun g then_ n ≡ begun g s n
  begun_same no_ = count_agree (length s.now.trace) (began then_) (began s) (λ i lt. elim (cases_eq i k) [
    | inl e ↦ rw e (none_of (is_dispatched g then_ n k) (event_is is_new_strand s.now.trace k) no_ ∙ sym (none_of (is_dispatched g s n k) (event_is is_new_strand s.now.trace k) no_))
    | inr ne ↦ ap (λ x. x && event_is is_new_strand s.now.trace i) (dispatched_other i ne)
  ])
    where
      none_of : (x y : Bool) → y ≡ false → (x && y) ≡ false
      none_of true y e = e
      none_of false y e = refl

  begun_more : event_is is_new_strand s.now.trace k ≡ true → begun g then_ n ≡ begun g s n + 1
  begun_more yes_ = count_one (length s.now.trace) k (began s) (began then_) ((found g s n k first).0)
      (rw not_before refl) (and_from (is_dispatched g then_ n k) (event_is is_new_strand s.now.trace k) dispatched_own yes_)
      (λ i ne. ap (λ x. x && event_is is_new_strand s.now.trace i) (dispatched_other i ne))

  begun_apart : (m : ℕ) → (m ≡ n → ⊥) → begun g then_ m ≡ begun g s m
  begun_apart m ne = ap (λ d. count_below (length s.now.trace) (λ i. core_event_is (is_item g.mode) m s.now.trace i && nat_lt (count_below i (core_event_is (is_item g.mode) m s.now.trace)) d && event_is is_new_strand s.now.trace i)) (number_other s.dispatched n m (gone s n + 1) ne)

  -- a persist that isn't there yet is accepted last
  later_none : (p : ℕ) → k < p → is_accepted g then_ n p ≡ false
  later_none p lt = accepted_other g s n k first there p (λ e. omega (arith, e, lt)) ∙ accepted_past g s n k first p (omega (arith, lt))

  -- numbers and epochs of accepted persists don't pass those of the first queued one
  pub number_rises : event_is is_persist s.now.trace k ≡ true → MatchOption (last_number g s n) (Unit {0}) (λ m. m < persist_number s.now.trace k)
  number_rises is = go (last_below (length s.now.trace) (is_accepted g s n)) refl
    where
      go : (o : Option ℕ) → last_below (length s.now.trace) (is_accepted g s n) ≡ o → MatchOption (option_map (persist_number s.now.trace) o) (Unit {0}) (λ m. m < persist_number s.now.trace k)
      go None e = tt
      go (Some p) e =
          let r = last_found (length s.now.trace) p (is_accepted g s n) e in
          count_strict p p k (event_is is_persist s.now.trace) (omega arith) (accepted_earlier g s n k first p r.1) ((and_parts (is_dispatched g s n p) (event_is is_persist s.now.trace p) r.1).1)

  pub epoch_rises : MatchOption (last_epoch g s n) (Unit {0}) (λ e. e ≤ epoch g.mode s.now.trace k)
  epoch_rises = go (last_below (length s.now.trace) (λ p. is_accepted g s n p && (strand_number g.mode s.now.trace p == begun g s n))) refl
    where
      go : (o : Option ℕ) → last_below (length s.now.trace) (λ p. is_accepted g s n p && (strand_number g.mode s.now.trace p == begun g s n)) ≡ o
          → MatchOption (option_map (epoch g.mode s.now.trace) o) (Unit {0}) (λ e. e ≤ epoch g.mode s.now.trace k)
      go None e = tt
      go (Some p) e =
          let r = last_found (length s.now.trace) p (λ p. is_accepted g s n p && (strand_number g.mode s.now.trace p == begun g s n)) e in
          let both = and_parts (is_accepted g s n p) (strand_number g.mode s.now.trace p == begun g s n) r.1 in
          let earlier = accepted_earlier g s n k first p both.0 in
          epochs_rise g.mode s.now.trace p k (strand_from g.mode s.now.trace p k (accepted_core g s n k first p both.0 ∙ sym (k_core g s n k first)) (eqb-true (strand_number g.mode s.now.trace p) (begun g s n) both.1 ∙ begun_by_front g s n k first)) (omega (arith, earlier))

  -- the buffer of the current strand has a free place exactly where the ring of k's strand has
  pub room_by_list : (bs : Buffers) → BuffersStand g s n bs → 0 < g.buffers → IsFit g s → has_room bs ≡ nat_lt (ring_use g s n k) g.ring
  room_by_list bs stand some fit =
      let at : current bs ≡ buffer_of g strand = cc (stand.strand, begun_by_front g s n k first, stand.buffers) in
      let size : length (list_in bs (current bs)) ≡ ring_use g s n k =
      ap (λ b. length (list_in bs b)) at ∙ ap length (stand.lists (buffer_of g strand) (mod_below strand g.buffers some)) ∙ length-map (listed g s n (buffer_of g strand)) (entry_of g s) ∙ ring_by_list g s n k first fit in
      cc (size, stand.ring)

  -- what the buffers of another core hold stays
  buffers_apart : (m : ℕ) (bs : Buffers) → (m ≡ n → ⊥) → BuffersStand g s m bs → BuffersStand g then_ m bs
  buffers_apart m bs ne stand = record {
    ring = stand.ring;
    buffers = stand.buffers;
    strand = stand.strand ∙ sym (begun_apart m ne);
    lists = λ b lt. stand.lists b lt ∙ sym (entries_of_others g s n k first there m b ne);
    number = stand.number ∙ ap (option_map (persist_number s.now.trace)) (last_agree (length s.now.trace) (is_accepted g s m) (is_accepted g then_ m) (λ p lt. sym (accepted_apart g s n k first there m p ne)));
    epoch = stand.epoch ∙ ap (option_map (epoch g.mode s.now.trace)) (last_agree (length s.now.trace) _ _ (λ p lt. cc (sym (accepted_apart g s n k first there m p ne), begun_apart m ne)));
  }

  -- an item that is no persist and begins no strand leaves the buffers
  buffers_item : (bs : Buffers) → event_is is_persist s.now.trace k ≡ false → event_is is_new_strand s.now.trace k ≡ false → BuffersStand g s n bs → BuffersStand g then_ n bs
  buffers_item bs no_ none stand = record {
    ring = stand.ring;
    buffers = stand.buffers;
    strand = stand.strand ∙ sym (begun_same none);
    lists = λ b lt. stand.lists b lt ∙ sym (entries_of_item g s n k first there no_ b);
    number = stand.number ∙ ap (option_map (persist_number s.now.trace)) (last_agree (length s.now.trace) (is_accepted g s n) (is_accepted g then_ n) (λ p lt. sym (accepted_same no_ p)));
    epoch = stand.epoch ∙ ap (option_map (epoch g.mode s.now.trace)) (last_agree (length s.now.trace) _ _ (λ p lt. cc (sym (accepted_same no_ p), begun_same none)));
  }
    where
      none_of : (x y : Bool) → y ≡ false → (x && y) ≡ false
      none_of true y e = e
      none_of false y e = refl

      accepted_same : event_is is_persist s.now.trace k ≡ false → (p : ℕ) → is_accepted g then_ n p ≡ is_accepted g s n p
      accepted_same no_ p = elim (cases_eq p k) [
        | inl e ↦ rw e (none_of (is_dispatched g then_ n k) (event_is is_persist s.now.trace k) no_ ∙ sym (none_of (is_dispatched g s n k) (event_is is_persist s.now.trace k) no_))
        | inr ne ↦ accepted_other g s n k first there p ne
      ]

  -- a begin of a strand begins it in the buffers
  buffers_begun : (bs : Buffers) → event_is is_persist s.now.trace k ≡ false → event_is is_new_strand s.now.trace k ≡ true → BuffersStand g s n bs → BuffersStand g then_ n (buffers.strand_begun bs)
  buffers_begun bs no_ yes_ stand = record {
    ring = stand.ring;
    buffers = stand.buffers;
    strand = ap (λ x. x + 1) stand.strand ∙ sym (begun_more yes_);
    lists = λ b lt. stand.lists b lt ∙ sym (entries_of_item g s n k first there no_ b);
    number = stand.number ∙ ap (option_map (persist_number s.now.trace)) (last_agree (length s.now.trace) (is_accepted g s n) (is_accepted g then_ n) (λ p lt. sym (accepted_same p)));
    epoch = sym (ap (option_map (epoch g.mode s.now.trace)) (last_none (length s.now.trace) _ (λ p. false_from_ne_true _ (λ h.
        let both = and_parts (is_accepted g then_ n p) (strand_number g.mode s.now.trace p == begun g then_ n) h in
        let taken : is_accepted g s n p ≡ true = sym (accepted_same p) ∙ both.0 in
        let rises = numbers_rise g.mode s.now.trace p k (accepted_core g s n k first p taken ∙ sym (k_core g s n k first)) (let earlier = accepted_earlier g s n k first p taken in omega (arith, earlier)) in
        omega (arith, rises, eqb-true (strand_number g.mode s.now.trace p) (begun g then_ n) both.1, begun_more yes_, begun_by_front g s n k first)))));
  }
    where
      none_of : (x y : Bool) → y ≡ false → (x && y) ≡ false
      none_of true y e = e
      none_of false y e = refl

      accepted_same : (p : ℕ) → is_accepted g then_ n p ≡ is_accepted g s n p
      accepted_same p = elim (cases_eq p k) [
        | inl e ↦ rw e (none_of (is_dispatched g then_ n k) (event_is is_persist s.now.trace k) no_ ∙ sym (none_of (is_dispatched g s n k) (event_is is_persist s.now.trace k) no_))
        | inr ne ↦ accepted_other g s n k first there p ne
      ]

  -- a persist is accepted by the buffers
  buffers_accepted : (bs : Buffers) → AreParts g s → 0 < g.buffers → event_is is_persist s.now.trace k ≡ true → event_is is_new_strand s.now.trace k ≡ false → k < length s.buffered → BuffersStand g s n bs
      → BuffersStand g then_ n (accepted bs (persist_number s.now.trace k) (word_at s.now.trace k) (value_at s.now.trace k) (epoch g.mode s.now.trace k) (noted_wait g.conflict g.mode s.now.trace k))
  buffers_accepted bs parts some is none inside stand =
      let entry : Entry = record { number = persist_number s.now.trace k; word = word_at s.now.trace k; value = value_at s.now.trace k; epoch = epoch g.mode s.now.trace k; wait = noted_wait g.conflict g.mode s.now.trace k; stage = Buffered } in
      let b : ℕ = buffer_of g strand in
      let at : current bs ≡ b = cc (stand.strand, begun_by_front g s n k first, stand.buffers) in
      let lt : b < g.buffers = mod_below strand g.buffers some in
      record {
        ring = stand.ring;
        buffers = length-set bs.lists (current bs) (list_in bs (current bs) ++ entry ∷ []) ∙ stand.buffers;
        strand = stand.strand ∙ sym (begun_same none);
        lists = λ b' within. ap (λ i. slice_index_or (slice_set bs.lists i (list_in bs i ++ entry ∷ [])) b' []) at ∙ (elim (cases_eq b' b) [
          | inl e ↦
              ap (λ i. slice_index_or (slice_set bs.lists b (list_in bs b ++ entry ∷ [])) i []) e
              ∙ at_set bs.lists b (list_in bs b ++ entry ∷ []) [] (omega (arith, lt, stand.buffers))
              ∙ ap (λ es. es ++ entry ∷ []) (stand.lists b lt)
              ∙ sym (entries_accepted g s n k first there parts is inside)
              ∙ sym (ap (entries g then_ n) e)
          | inr ne ↦ at_other bs.lists b b' (list_in bs b ++ entry ∷ []) [] ne ∙ stand.lists b' within ∙ sym (entries_apart g s n k first there parts is inside b' (λ e. ne (sym e)))
        ]);
        number = sym (ap (option_map (persist_number s.now.trace)) (last_is (length s.now.trace) k (is_accepted g then_ n) ((found g s n k first).0) (accepted_own g s n k first there is) later_none));
        epoch = sym (ap (option_map (epoch g.mode s.now.trace)) (last_is (length s.now.trace) k (λ p. is_accepted g then_ n p && (strand_number g.mode s.now.trace p == begun g then_ n)) ((found g s n k first).0)
            (and_from (is_accepted g then_ n k) (strand == begun g then_ n) (accepted_own g s n k first there is) (eq-eqb strand (begun g then_ n) (sym (begun_same none ∙ begun_by_front g s n k first))))
            (λ p lt. rw (later_none p lt) refl)));
      }

  tally_same : (i : ℕ) (c : Tally) → TallyStands g s i c → TallyStands g then_ i c
  tally_same i c stand = record { numbers = stand.numbers; first = stand.first; strand = stand.strand; waits = stand.waits }

  module _ (x : Extents) (m : PartsSeen) (stand : Stand g x s m) (core : n < length s.now.cores) where
    abbrev popped : Queue
    popped = queue (drop 1 (queue_at m n).items) (queue_at m n).depth

    popped_is : popped ≡ queue (queue_items g then_ n) g.queue
    popped_is = ap (λ (q : Queue). queue (drop 1 q.items) q.depth) (stand.queues n core) ∙ ap (λ items. queue items g.queue) (sym (queue_dispatched g s n k there))

    -- the parts after a dispatch, whatever it made of the buffers of its core
    stand_with : (bs : Buffers) → BuffersStand g then_ n bs → Stand g x then_ (record m { queues = slice_set m.queues n popped; buffers = slice_set m.buffers n bs })
    stand_with bs own_stand = record {
      queue_count = length-set m.queues n popped ∙ stand.queue_count;
      queues = λ i lt. elim (cases_eq i n) [
        | inl e ↦ ap (λ i. slice_index_or (slice_set m.queues n popped) i no_queue) e ∙ at_set m.queues n popped no_queue (omega (arith, core, stand.queue_count)) ∙ popped_is ∙ sym (ap (λ i. queue (queue_items g then_ i) g.queue) e)
        | inr ne ↦ at_other m.queues n i popped no_queue ne ∙ stand.queues i lt ∙ ap (λ items. queue items g.queue) (sym (queue_of_others g s n k i ne))
      ];
      buffer_count = length-set m.buffers n bs ∙ stand.buffer_count;
      buffers = λ i lt. elim (cases_eq i n) [
        | inl e ↦ subst (λ i. BuffersStand g then_ i (slice_index_or (slice_set m.buffers n bs) i no_buffers)) (sym e) (subst (BuffersStand g then_ n) (sym (at_set m.buffers n bs no_buffers (omega (arith, core, stand.buffer_count)))) own_stand)
        | inr ne ↦ subst (BuffersStand g then_ i) (sym (at_other m.buffers n i bs no_buffers ne)) (buffers_apart i (slice_index_or m.buffers i no_buffers) ne (stand.buffers i lt))
      ];
      tags = record { extents = stand.tags.extents; cores = stand.tags.cores; accesses = stand.tags.accesses; strands = stand.tags.strands; made = stand.tags.made };
      control = stand.control;
      tally_count = stand.tally_count;
      tallies = λ i lt. tally_same i (tally_at m i) (stand.tallies i lt);
      waits = stand.waits;
      cache = cache_kept g s then_ m.cache m.cache stand.cache refl refl refl refl;
    }

    -- the wait that is kept of it, where it is a persist
    wait_kept : event_is is_persist s.now.trace k ≡ true → slice_index_or m.waiting.waits (persist_number s.now.trace k) [] ≡ noted_wait g.conflict g.mode s.now.trace k
    wait_kept is =
        let t = s.now.trace in
        let number : ℕ = persist_number t k in
        let wait : List ℕ = noted_wait g.conflict g.mode t k in
        let at : slice_get (persist_waits g t) number ≡ Some wait = slice_get-map (noted_wait g.conflict g.mode t) (persists_of t) number ∙ ap (option_map (noted_wait g.conflict g.mode t)) (list_at (length t) (event_is is_persist t) k ((found g s n k first).0) is) in
        ap (λ waits. slice_index_or waits number []) stand.waits
        ∙ same_Some (slice_index_or (persist_waits g t) number []) wait (sym (slice_get-get_or (persist_waits g t) number [] (slice_get_within (persist_waits g t) number wait at)) ∙ at)

    buffers_taken : AreParts g s → 0 < g.buffers → event_is (is_item g.mode) s.now.trace k ≡ true → k < length s.buffered → BuffersStand g then_ n (taken (buffers_at m n) (item_of g s k) (wait_at m (item_of g s k)))
    buffers_taken parts some item inside =
        let t = s.now.trace in
        let own : Buffers = buffers_at m n in
        elim (cases_Bool (event_is is_persist t k)) [
          | inl is ↦ subst (λ i. BuffersStand g then_ n (taken own i (wait_at m i))) (sym (item_persist g s k is))
              (subst (λ w. BuffersStand g then_ n (accepted own (persist_number t k) (word_at t k) (value_at t k) (epoch g.mode t k) w)) (sym (wait_kept is)) (buffers_accepted own parts some is (event_persist_begins t k is) inside (stand.buffers n core)))
          | inr no_ ↦ elim (cases_Bool (event_is is_barrier t k)) [
            | inl is ↦ subst (λ i. BuffersStand g then_ n (taken own i (wait_at m i))) (sym (item_barrier g s k no_ is)) (buffers_item own no_ (event_barrier_begins t k is) (stand.buffers n core))
            | inr none ↦ subst (λ i. BuffersStand g then_ n (taken own i (wait_at m i))) (sym (item_begin g s k no_ none)) (buffers_begun own no_ (event_item_begins g.mode t k item no_ none) (stand.buffers n core))
          ]
        ]

    -- the parts after a dispatch of the first item of the queue
    pub stand_dispatched : AreParts g s → 0 < g.buffers → k < length s.buffered → Stand g x then_ (with_dispatched m n (item_of g s k))
    stand_dispatched parts some inside = stand_with (taken (buffers_at m n) (item_of g s k) (wait_at m (item_of g s k))) (buffers_taken parts some (and_parts (event_is (is_item g.mode) s.now.trace k) (core_at s.now.trace k == n) (found g s n k first).1).0 inside)
