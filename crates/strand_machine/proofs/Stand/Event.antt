-- Serves clause parts of Machine::step: the parts after an event of a core.
use Rattle.std.proofs.Common.{◌≡◌, ℕ, ◌+◌, ◌<◌, ◌≤◌, Bool, true, false, ◌&&◌, inl, inr, List, [], ◌∷◌, ◌++◌, length, map, refl, sym, ap, subst, ◌∙◌, arith}
use Rattle.std.specs.Prelude.{◌==◌, slice_get, slice_set, slice_index_or, Some}
use Rattle.std.proofs.lemmas.Bool.{cases_Bool, cases_eq, and_parts, eq-eqb, ne_eqb}
use Rattle.std.proofs.lemmas.List.{get_or_past, length-set, append-nil}
use Rattle.strand_base.specs.Counting.{count_below}
use Rattle.strand_exec.specs.Core as cores
use Rattle.strand_exec.specs.Core.{Extents}
use Rattle.strand_exec.specs.Memory.{Memory}
use Rattle.strand_inputs.specs.Settings.{Settings}
use Rattle.strand_inputs.specs.declared.conflict.Conflict.TheVariants.{Tag}
use Rattle.strand_events.specs.declared.event.Event.{Event}
use Rattle.strand_events.specs.Trace.{is_persist, is_barrier, is_new_strand, core_of, core_event_is, persist_number}
use Rattle.strand_events.specs.Order.{set_of}
use Rattle.strand_events.proofs.TraceInvariant.{last_is}
use Rattle.strand_rules.specs.Cycle.{State, is_item, gone}
use Rattle.strand_rules.specs.Looking.{next_strand}
use Rattle.strand_rules.proofs.Front.{persist_item}
use Rattle.strand_rules.proofs.MarkSets.{held_grown}
use Rattle.strand_queue.specs.declared.item.Item.{Item}
use Rattle.strand_queue.specs.Queue.{Queue, queue}
use Rattle.strand_tags.specs.WaitEntries.{KeepsWaits}
use Rattle.strand_tags.specs.TagsSeen.{TagsSeen}
use Rattle.strand_tags.specs.declared.core_waits.CoreWaits.{CoreWaits}
use Rattle.strand_cache.specs.Seen.{Seen}
use Rattle.strand_events.specs.Prefixes.{core_persists, durable_prefix}
use Rattle.strand_tags.proofs.ConflictWaits.{keeps_other}
use Rattle.strand_tags.proofs.LongerTrace.{prefix_kept}
use Rattle.strand_machine.specs.Cached.{CacheStands}
use Rattle.strand_machine.specs.Changed.{tallied, with_item}
use Rattle.strand_machine.specs.Stand.{item_of, queue_items, BuffersStand, TagsStand, Tally, TallyStands, PartsSeen, Stand, Waiting, no_queue, no_tally, persist_waits, queue_at, buffers_at, tally_at}
use Rattle.strand_machine.proofs.Stand.Counts.{and_false, begins, numbers_grown, number_last, strand_grown, persist_begins, barrier_begins, item_begins}
use Rattle.strand_machine.proofs.ItemKinds.{item_persist, item_barrier, item_begin}
use Rattle.strand_machine.proofs.Stand.SendWrite.{at_set, at_other}
use Rattle.strand_machine.proofs.Stand.Core.{longer, buffers_longer, queue_longer, requests_longer}

and_left : (x y z : Bool) → (x ≡ true → y ≡ true) → (y && z) ≡ false → (x && z) ≡ false
and_left true y z so none = rw (so refl) at none
and_left false y z so none = refl

-- what is counted of a core stands for the state, but for what it keeps of waits
pub record CountsStand (g : Settings) (s : State) (n : ℕ) (c : Tally) : Type 0 where
  pub numbers : c.numbers ≡ map (persist_number s.now.trace) (core_persists s.now.trace n)
  pub first : c.first ≡ durable_prefix s.now.trace (set_of s.durable) n
  pub strand : c.strand ≡ next_strand g.mode s.now.trace n

-- and with what it keeps of waits
tally_with : (g : Settings) (s : State) (n : ℕ) (c : Tally) (waits : CoreWaits) → CountsStand g s n c → (g.conflict ≡ Tag → KeepsWaits g.mode s.now.trace n waits) → TallyStands g s n (record c { waits = waits })
tally_with g s n c waits stand keeps = record { numbers = stand.numbers; first = stand.first; strand = stand.strand; waits = keeps }

-- the parts with these waits of core n and of the persists
abbrev pub with_waits : PartsSeen → ℕ → CoreWaits → Waiting → PartsSeen
with_waits m n waits waiting = record m { tallies = slice_set m.tallies n (record (tally_at m n) { waits = waits }); waiting = waiting }

module _ (g : Settings) (s : State) (e : Event) (cs : List cores.Core) (memory : Memory) (retired : List ℕ)
    (within : (core : ℕ) → gone s core ≤ count_below (length s.now.trace) (core_event_is (is_item g.mode) core s.now.trace)) (same_marks : length s.durable ≡ length s.now.trace) where
  abbrev t : List Event
  t = s.now.trace

  abbrev then_ : State
  then_ = longer g s e cs memory retired within

  undone : set_of s.durable (length t) ≡ false
  undone = get_or_past s.durable (length t) false (omega (arith, same_marks))

  first_kept : (n : ℕ) → durable_prefix t (set_of s.durable) n ≡ durable_prefix (t ++ e ∷ []) (set_of (s.durable ++ false ∷ [])) n
  first_kept n = sym (prefix_kept t e (set_of s.durable) n undone) ∙ ap (λ d. durable_prefix (t ++ e ∷ []) d n) (sym (held_grown s.durable))

  -- an event that is no item of the core leaves what is counted of it
  pub tally_kept : (n : ℕ) (c : Tally) → (is_item g.mode e && (core_of e == n)) ≡ false → TallyStands g s n c → CountsStand g then_ n c
  tally_kept n c none stand = record {
    numbers = stand.numbers ∙ sym (numbers_grown t e n ∙ (rw (and_left (is_persist e) (is_item g.mode e) (core_of e == n) (persist_item g.mode e) none) refl));
    first = stand.first ∙ first_kept n;
    strand = stand.strand ∙ sym (strand_grown g.mode t e n ∙ (rw (and_left (begins g.mode e) (is_item g.mode e) (core_of e == n) (λ h. (and_parts (is_item g.mode e) (is_new_strand e) h).0) none) (omega arith)));
  }

  -- an item of the core is counted
  pub tally_more : (c : Tally) → is_item g.mode e ≡ true → TallyStands g s (core_of e) c → CountsStand g then_ (core_of e) (tallied c (item_of g then_ (length t)))
  tally_more c item stand =
      let own : (core_of e == core_of e) ≡ true = eq-eqb (core_of e) (core_of e) refl in
      let numbers = numbers_grown t e (core_of e) in
      let strand = strand_grown g.mode t e (core_of e) in
      elim (cases_Bool (is_persist e)) [
        | inl is ↦ subst (λ i. CountsStand g then_ (core_of e) (tallied c i)) (sym (item_persist g then_ (length t) (last_is is_persist t e ∙ is))) (record {
          numbers = ap (λ ns. ns ++ persist_number (t ++ e ∷ []) (length t) ∷ []) stand.numbers ∙ ap (λ n. map (persist_number t) (core_persists t (core_of e)) ++ n ∷ []) (number_last t e) ∙ sym (numbers ∙ (rw (is, own) refl));
          first = stand.first ∙ first_kept (core_of e);
          strand = stand.strand ∙ sym (strand ∙ (rw (persist_begins g.mode e is) (omega arith)));
        })
        | inr no_ ↦ elim (cases_Bool (is_barrier e)) [
          | inl is ↦ subst (λ i. CountsStand g then_ (core_of e) (tallied c i)) (sym (item_barrier g then_ (length t) (last_is is_persist t e ∙ no_) (last_is is_barrier t e ∙ is))) (record {
            numbers = stand.numbers ∙ sym (numbers ∙ (rw no_ refl));
            first = stand.first ∙ first_kept (core_of e);
            strand = stand.strand ∙ sym (strand ∙ (rw (barrier_begins g.mode e is) (omega arith)));
          })
          | inr none ↦ subst (λ i. CountsStand g then_ (core_of e) (tallied c i)) (sym (item_begin g then_ (length t) (last_is is_persist t e ∙ no_) (last_is is_barrier t e ∙ none))) (record {
            numbers = stand.numbers ∙ sym (numbers ∙ (rw no_ refl));
            first = stand.first ∙ first_kept (core_of e);
            strand = ap (λ n. n + 1) stand.strand ∙ sym (strand ∙ (rw (item_begins g.mode e item no_ none, own) refl));
          })
        ]
      ]

  -- of another core than the event's it stays
  tally_other : (n : ℕ) (c : Tally) → (core_of e == n) ≡ false → TallyStands g s n c → TallyStands g then_ n c
  tally_other n c other stand = tally_with g then_ n c c.waits (tally_kept n c (ap (λ b. is_item g.mode e && b) other ∙ and_false (is_item g.mode e)) stand) (λ tag. keeps_other g.mode t e n c.waits other (stand.waits tag))

  module _ (x : Extents) (m : PartsSeen) (tags : TagsSeen) (cache : Seen) (waits : CoreWaits) (waiting : Waiting) (stand : Stand g x s m) (same_cores : length cs ≡ length s.now.cores)
      (inside : (i p : ℕ) → slice_get s.flight i ≡ Some p → p < length s.now.trace) (tags_stand : TagsStand g x then_ tags) (cache_stand : CacheStands g then_ cache) (there : core_of e < length s.now.cores)
      (keeps : g.conflict ≡ Tag → KeepsWaits g.mode (t ++ e ∷ []) (core_of e) waits) (waits_stand : waiting.waits ≡ persist_waits g (t ++ e ∷ [])) where
    buffers_kept : (n : ℕ) → n < length cs → BuffersStand g then_ n (buffers_at m n)
    buffers_kept n lt = buffers_longer g s e cs memory retired within n (buffers_at m n) (stand.buffers n (omega (arith, lt, same_cores)))

    abbrev own : ℕ
    own = core_of e

    -- an event that is no item leaves the parts but for the tags, the caches and the waits
    pub stand_other : is_item g.mode e ≡ false → Stand g x then_ (with_waits (record m { tags = tags; cache = cache }) (core_of e) waits waiting)
    stand_other no_ = record {
      queue_count = stand.queue_count ∙ sym same_cores;
      queues = λ n lt. stand.queues n (omega (arith, lt, same_cores)) ∙ ap (λ items. queue items g.queue) (sym (queue_longer g s e cs memory retired within n ∙ (rw no_ (append-nil _))));
      buffer_count = stand.buffer_count ∙ sym same_cores;
      buffers = buffers_kept;
      tags = tags_stand;
      control = stand.control ∙ ap (λ rs. record { requests = rs; limit = g.flight }) (sym (requests_longer g s e cs memory retired within inside));
      tally_count = length-set m.tallies own _ ∙ stand.tally_count ∙ sym same_cores;
      tallies = λ n lt. elim (cases_eq n own) [
        | inl same ↦ subst (λ i. TallyStands g then_ i (slice_index_or (slice_set m.tallies own (record (tally_at m own) { waits = waits })) i no_tally)) (sym same)
            (subst (TallyStands g then_ own) (sym (at_set m.tallies own _ no_tally (omega (arith, there, stand.tally_count))))
            (tally_with g then_ own (tally_at m own) waits (tally_kept own (tally_at m own) (rw no_ refl) (stand.tallies own there)) keeps))
        | inr ne ↦ subst (TallyStands g then_ n) (sym (at_other m.tallies own n _ no_tally ne)) (tally_other n (tally_at m n) (ne_eqb own n (λ e'. ne (sym e'))) (stand.tallies n (omega (arith, lt, same_cores))))
      ];
      waits = waits_stand;
      cache = cache_stand;
    }

    abbrev item : Item
    item = item_of g then_ (length t)

    abbrev counted : List Tally
    counted = slice_set m.tallies own (tallied (tally_at m own) item)

    -- an item stands at the end of its core's queue, and is counted
    pub stand_item : is_item g.mode e ≡ true → Stand g x then_ (with_waits (record (with_item m (core_of e) item) { tags = tags; cache = cache }) (core_of e) waits waiting)
    stand_item yes_ = record {
      queue_count = length-set m.queues own _ ∙ stand.queue_count ∙ sym same_cores;
      queues = λ n lt. elim (cases_eq n own) [
        | inl same ↦
            ap (λ i. slice_index_or (slice_set m.queues own (queue ((queue_at m own).items ++ item ∷ []) (queue_at m own).depth)) i no_queue) same
            ∙ at_set m.queues own _ no_queue (omega (arith, there, stand.queue_count))
            ∙ ap (λ (q : Queue). queue (q.items ++ item ∷ []) q.depth) (stand.queues own there)
            ∙ ap (λ items. queue items g.queue) (sym (queue_longer g s e cs memory retired within own ∙ (rw (yes_, eq-eqb own own refl) refl)))
            ∙ sym (ap (λ i. queue (queue_items g then_ i) g.queue) same)
        | inr ne ↦
            at_other m.queues own n _ no_queue ne ∙ stand.queues n (omega (arith, lt, same_cores))
            ∙ ap (λ items. queue items g.queue) (sym (queue_longer g s e cs memory retired within n ∙ (rw (yes_, ne_eqb own n (λ e'. ne (sym e'))) (append-nil _))))
      ];
      buffer_count = stand.buffer_count ∙ sym same_cores;
      buffers = buffers_kept;
      tags = tags_stand;
      control = stand.control ∙ ap (λ rs. record { requests = rs; limit = g.flight }) (sym (requests_longer g s e cs memory retired within inside));
      tally_count = length-set counted own _ ∙ length-set m.tallies own _ ∙ stand.tally_count ∙ sym same_cores;
      tallies = λ n lt. elim (cases_eq n own) [
        | inl same ↦
            let size : own < length counted = omega (arith, there, stand.tally_count, length-set m.tallies own (tallied (tally_at m own) item)) in
            subst (λ i. TallyStands g then_ i (slice_index_or (slice_set counted own (record (slice_index_or counted own no_tally) { waits = waits })) i no_tally)) (sym same)
            (subst (TallyStands g then_ own) (sym (at_set counted own _ no_tally size))
            (tally_with g then_ own (slice_index_or counted own no_tally) waits
            (subst (CountsStand g then_ own) (sym (at_set m.tallies own _ no_tally (omega (arith, there, stand.tally_count)))) (tally_more (tally_at m own) yes_ (stand.tallies own there))) keeps))
        | inr ne ↦ subst (TallyStands g then_ n) (sym (at_other counted own n _ no_tally ne ∙ at_other m.tallies own n _ no_tally ne)) (tally_other n (tally_at m n) (ne_eqb own n (λ e'. ne (sym e'))) (stand.tallies n (omega (arith, lt, same_cores))))
      ];
      waits = waits_stand;
      cache = cache_stand;
    }
