-- Serves clause parts of Machine::step: the parts stand for the state after a send and after a write.
use Rattle.std.proofs.Common.{◌≡◌, ℕ, ◌<◌, Bool, true, false, inl, inr, List, [], ◌∷◌, ◌++◌, length, map, refl, sym, ap, subst, ◌∙◌, arith}
use Rattle.std.specs.Prelude.{◌==◌, remove, slice_set, slice_index_or, Some, if◌then◌else◌}
use Rattle.std.proofs.lemmas.Bool.{cases_eq, and_parts, eqb-true}
use Rattle.std.proofs.lemmas.List.{length-set, get_or-set_same, get_or-set_other}
use Rattle.strand_base.specs.Counting.{list_below}
use Rattle.strand_base.proofs.BelowBound.{list_get}
use Rattle.strand_exec.specs.Core.{Extents}
use Rattle.strand_inputs.specs.Settings.{Settings}
use Rattle.strand_events.specs.Trace.{is_persist, core_at, event_is, strand_number, persist_number}
use Rattle.strand_events.specs.Order.{set_of}
use Rattle.strand_rules.specs.Cycle.{State, is_accepted, buffer_of, send_after, write_after}
use Rattle.strand_rules.specs.Machine.{durable_persists}
use Rattle.strand_rules.proofs.Marks.{held_other}
use Rattle.strand_buffer.specs.declared.entry.Stage.{Stage}
use Rattle.strand_buffer.specs.declared.entry.Stage.TheVariants.{Buffered, Sent, Released}
use Rattle.strand_buffer.specs.Entries.{trimmed}
use Rattle.strand_buffer.specs.Buffers.{Buffers, list_in, with_stage, sent, released}
use Rattle.strand_control.specs.Flight.{Flight}
use Rattle.strand_events.specs.Prefixes.{leading}
use Rattle.strand_machine.specs.Lists.{is_of_buffer, listed, entry_of, entries}
use Rattle.strand_machine.specs.Changed.{advanced, with_sent, with_written}
use Rattle.strand_machine.specs.Stand.{request_at, Tally, BuffersStand, TallyStands, PartsSeen, Stand, no_buffers, no_tally, buffers_at, tally_at}
use Rattle.strand_machine.proofs.Stand.Cache.{cache_kept}
use Rattle.strand_machine.proofs.Stand.Counts.{first_apart, first_by_marks}
use Rattle.strand_machine.proofs.Lists.SendWrite.{map_on, open_on, listed_member, entries_sent, entries_written}
use Rattle.strand_machine.proofs.Lists.Requests.{requests_sent, requests_written}

-- a list of lists, or of other things, with one replaced
pub at_set : {X : Type 0} (xs : List X) (i : ℕ) (x d : X) → i < length xs → slice_index_or (slice_set xs i x) i d ≡ x
at_set xs i x d lt = get_or-set_same xs i x d lt

pub at_other : {X : Type 0} (xs : List X) (i j : ℕ) (x d : X) → (j ≡ i → ⊥) → slice_index_or (slice_set xs i x) j d ≡ slice_index_or xs j d
at_other xs i j x d ne = get_or-set_other xs i j x d ne

module _ (g : Settings) (s : State) (p : ℕ) where
  abbrev c : ℕ
  c = core_at s.now.trace p

  abbrev b : ℕ
  b = buffer_of g (strand_number g.mode s.now.trace p)

  abbrev number : ℕ
  number = persist_number s.now.trace p

  -- a member of another buffer is another persist
  elsewhere : (n b' q : ℕ) → ((n ≡ c) × (b' ≡ b) → ⊥) → is_of_buffer g s n b' q ≡ true → q ≡ p → ⊥
  elsewhere n b' q other h e =
      let one = and_parts (is_accepted g s n q) (buffer_of g (strand_number g.mode s.now.trace q) == b') h in
      let core_q = accepted_core one.0 in
      other (sym core_q ∙ ap (core_at s.now.trace) e, sym (eqb-true (buffer_of g (strand_number g.mode s.now.trace q)) b' one.1) ∙ ap (λ x. buffer_of g (strand_number g.mode s.now.trace x)) e)
    where
      accepted_core : is_accepted g s n q ≡ true → core_at s.now.trace q ≡ n
      accepted_core h = eqb-true (core_at s.now.trace q) n ((and_parts _ (core_at s.now.trace q == n) ((and_parts _ _ ((and_parts _ _ h).0)).0)).1)

  -- a send leaves the lists of other buffers
  pub entries_unsent : (n b' : ℕ) → ((n ≡ c) × (b' ≡ b) → ⊥) → entries g (send_after s (Some p)) n b' ≡ entries g s n b'
  entries_unsent n b' other = map_on (entry_of g (send_after s (Some p))) (entry_of g s) (listed g s n b') (λ i q e.
      let ne = elsewhere n b' q other ((listed_member g s n b' i q e).1) in
      ap (λ (x : Stage). record (entry_of g s q) { stage = x }) (ap (λ w. if set_of s.durable q then Released else if w then Buffered else Sent) (held_other s.buffered p false q ne)))

  -- a write too
  pub entries_unwritten : (j n b' : ℕ) → ((n ≡ c) × (b' ≡ b) → ⊥) → entries g (write_after s j (Some p)) n b' ≡ entries g s n b'
  entries_unwritten j n b' other = open_on (entry_of g (write_after s j (Some p))) (entry_of g s) (set_of (slice_set s.durable p true)) (set_of s.durable) (list_below (length s.now.trace) (is_of_buffer g s n b')) (λ i q e.
      let r = list_get (length s.now.trace) (is_of_buffer g s n b') i q e in
      let ne = elsewhere n b' q other r.1 in
      let same = held_other s.durable p true q ne in
      (ap (λ (x : Stage). record (entry_of g s q) { stage = x }) (ap (λ d. if d then Released else if set_of s.buffered q then Buffered else Sent) same), same))

  module _ (persist : event_is is_persist s.now.trace p ≡ true) where
    -- the buffers of the persist's core, with it sent
    buffers_sent : (bs : Buffers) → BuffersStand g s c bs → b < g.buffers → p < length s.buffered → set_of s.durable p ≡ false → BuffersStand g (send_after s (Some p)) c (sent bs b number)
    buffers_sent bs stand lt inside undone = record {
      ring = stand.ring;
      buffers = length-set bs.lists b (map (with_stage Sent number) (list_in bs b)) ∙ stand.buffers;
      strand = stand.strand;
      lists = λ b' within. elim (cases_eq b' b) [
        | inl e ↦
            ap (λ i. slice_index_or (slice_set bs.lists b (map (with_stage Sent number) (list_in bs b))) i []) e
            ∙ at_set bs.lists b (map (with_stage Sent number) (list_in bs b)) [] (omega (arith, lt, stand.buffers))
            ∙ ap (map (with_stage Sent number)) (stand.lists b lt)
            ∙ sym (entries_sent g s p persist inside undone c b)
            ∙ sym (ap (entries g (send_after s (Some p)) c) e)
        | inr ne ↦ at_other bs.lists b b' (map (with_stage Sent number) (list_in bs b)) [] ne ∙ stand.lists b' within ∙ sym (entries_unsent c b' (λ e. ne e.1))
      ];
      number = stand.number;
      epoch = stand.epoch;
    }

    buffers_written : (j : ℕ) (bs : Buffers) → BuffersStand g s c bs → b < g.buffers → p < length s.durable → BuffersStand g (write_after s j (Some p)) c (released bs b number)
    buffers_written j bs stand lt inside = record {
      ring = stand.ring;
      buffers = length-set bs.lists b (trimmed (map (with_stage Released number) (list_in bs b))) ∙ stand.buffers;
      strand = stand.strand;
      lists = λ b' within. elim (cases_eq b' b) [
        | inl e ↦
            ap (λ i. slice_index_or (slice_set bs.lists b (trimmed (map (with_stage Released number) (list_in bs b)))) i []) e
            ∙ at_set bs.lists b (trimmed (map (with_stage Released number) (list_in bs b))) [] (omega (arith, lt, stand.buffers))
            ∙ ap (λ es. trimmed (map (with_stage Released number) es)) (stand.lists b lt)
            ∙ sym (entries_written g s p persist j inside c b)
            ∙ sym (ap (entries g (write_after s j (Some p)) c) e)
        | inr ne ↦ at_other bs.lists b b' (trimmed (map (with_stage Released number) (list_in bs b))) [] ne ∙ stand.lists b' within ∙ sym (entries_unwritten j c b' (λ e. ne e.1))
      ];
      number = stand.number;
      epoch = stand.epoch;
    }

    -- the buffers of another core
    buffers_unsent : (n : ℕ) (bs : Buffers) → (n ≡ c → ⊥) → BuffersStand g s n bs → BuffersStand g (send_after s (Some p)) n bs
    buffers_unsent n bs ne stand = record { ring = stand.ring; buffers = stand.buffers; strand = stand.strand; lists = λ b' within. stand.lists b' within ∙ sym (entries_unsent n b' (λ e. ne e.0)); number = stand.number; epoch = stand.epoch }

    buffers_unwritten : (j n : ℕ) (bs : Buffers) → (n ≡ c → ⊥) → BuffersStand g s n bs → BuffersStand g (write_after s j (Some p)) n bs
    buffers_unwritten j n bs ne stand = record { ring = stand.ring; buffers = stand.buffers; strand = stand.strand; lists = λ b' within. stand.lists b' within ∙ sym (entries_unwritten j n b' (λ e. ne e.0)); number = stand.number; epoch = stand.epoch }

    -- what is counted of the persist's core, once it is durable
    tally_written : (j : ℕ) (c' : Tally) → TallyStands g s c c' → TallyStands g (write_after s j (Some p)) c (advanced c' (durable_persists (write_after s j (Some p))))
    tally_written j c' stand = record {
      numbers = stand.numbers;
      first = ap (λ ns. leading (map (set_of (durable_persists (write_after s j (Some p)))) ns)) stand.numbers ∙ first_by_marks s.now.trace (set_of (slice_set s.durable p true)) c;
      strand = stand.strand;
      waits = stand.waits;
    }

    tally_unwritten : (j n : ℕ) (c' : Tally) → (n ≡ c → ⊥) → TallyStands g s n c' → TallyStands g (write_after s j (Some p)) n c'
    tally_unwritten j n c' ne stand = record { numbers = stand.numbers; first = stand.first ∙ sym (first_apart s.now.trace s.durable p n (λ e. ne (sym e))); strand = stand.strand; waits = stand.waits }

    module _ (x : Extents) (m : PartsSeen) (stand : Stand g x s m) (core : c < length s.now.cores) (buffer : b < g.buffers) where
      abbrev own : Buffers
      own = buffers_at m c

      -- the parts after a send: the buffers of its core say so, and the controller has one request more
      pub stand_sent : p < length s.buffered → set_of s.durable p ≡ false → Stand g x (send_after s (Some p)) (with_sent m (request_at g s p))
      stand_sent inside undone = record {
        queue_count = stand.queue_count;
        queues = stand.queues;
        buffer_count = length-set m.buffers c (sent own b number) ∙ stand.buffer_count;
        buffers = λ n lt. elim (cases_eq n c) [
          | inl e ↦ subst (λ i. BuffersStand g (send_after s (Some p)) i (slice_index_or (slice_set m.buffers c (sent own b number)) i no_buffers)) (sym e)
              (subst (BuffersStand g (send_after s (Some p)) c) (sym (at_set m.buffers c (sent own b number) no_buffers (omega (arith, core, stand.buffer_count)))) (buffers_sent own (stand.buffers c core) buffer inside undone))
          | inr ne ↦ subst (BuffersStand g (send_after s (Some p)) n) (sym (at_other m.buffers c n (sent own b number) no_buffers ne)) (buffers_unsent n (slice_index_or m.buffers n no_buffers) ne (stand.buffers n lt))
        ];
        tags = record { extents = stand.tags.extents; cores = stand.tags.cores; accesses = stand.tags.accesses; strands = stand.tags.strands; made = stand.tags.made };
        control = ap (λ (f : Flight). record f { requests = f.requests ++ request_at g s p ∷ [] }) stand.control ∙ ap (λ rs. record { requests = rs; limit = g.flight }) (sym (requests_sent g s p));
        tally_count = stand.tally_count;
        tallies = λ n lt. (let own_ = stand.tallies n lt in record { numbers = own_.numbers; first = own_.first; strand = own_.strand; waits = own_.waits });
        waits = stand.waits;
        cache = cache_kept g s (send_after s (Some p)) m.cache m.cache stand.cache refl refl refl refl;
      }

      -- the parts after a write: the controller drops it, the buffers release it, and it is counted
      pub stand_written : (j : ℕ) → p < length s.durable
          → Stand g x (write_after s j (Some p)) (with_written (record m { control = record m.control { requests = remove m.control.requests j } }) (request_at g s p) (durable_persists (write_after s j (Some p))))
      stand_written j inside =
          let after_ : List Bool = durable_persists (write_after s j (Some p)) in
          record {
            queue_count = stand.queue_count;
            queues = stand.queues;
            buffer_count = length-set m.buffers c (released own b number) ∙ stand.buffer_count;
            buffers = λ n lt. elim (cases_eq n c) [
              | inl e ↦ subst (λ i. BuffersStand g (write_after s j (Some p)) i (slice_index_or (slice_set m.buffers c (released own b number)) i no_buffers)) (sym e)
                  (subst (BuffersStand g (write_after s j (Some p)) c) (sym (at_set m.buffers c (released own b number) no_buffers (omega (arith, core, stand.buffer_count)))) (buffers_written j own (stand.buffers c core) buffer inside))
              | inr ne ↦ subst (BuffersStand g (write_after s j (Some p)) n) (sym (at_other m.buffers c n (released own b number) no_buffers ne)) (buffers_unwritten j n (slice_index_or m.buffers n no_buffers) ne (stand.buffers n lt))
            ];
            tags = record { extents = stand.tags.extents; cores = stand.tags.cores; accesses = stand.tags.accesses; strands = stand.tags.strands; made = stand.tags.made };
            control = ap (λ (f : Flight). record f { requests = remove f.requests j }) stand.control ∙ ap (λ rs. record { requests = rs; limit = g.flight }) (sym (requests_written g s j p));
            tally_count = length-set m.tallies c (advanced (tally_at m c) after_) ∙ stand.tally_count;
            tallies = λ n lt. elim (cases_eq n c) [
              | inl e ↦ subst (λ i. TallyStands g (write_after s j (Some p)) i (slice_index_or (slice_set m.tallies c (advanced (tally_at m c) after_)) i no_tally)) (sym e)
                  (subst (TallyStands g (write_after s j (Some p)) c) (sym (at_set m.tallies c (advanced (tally_at m c) after_) no_tally (omega (arith, core, stand.tally_count)))) (tally_written j (tally_at m c) (stand.tallies c core)))
              | inr ne ↦ subst (TallyStands g (write_after s j (Some p)) n) (sym (at_other m.tallies c n (advanced (tally_at m c) after_) no_tally ne)) (tally_unwritten j n (tally_at m n) ne (stand.tallies n lt))
            ];
            waits = stand.waits;
            cache = cache_kept g s (write_after s j (Some p)) m.cache m.cache stand.cache refl refl refl refl;
          }
