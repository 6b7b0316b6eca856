-- Serves clause edges of Graph::edges, the second step of build, by sources_to.
-- The last events give the chain and the one event more.
use Rattle.std.proofs.Common.{◌≡◌, ℕ, suc, ◌+◌, ◌<◌, ◌≤◌, Bool, true, false, List, length, refl, sym, ap, ◌∙◌, arith, cond, subst, ◌-◌, ◌^◌}
use Rattle.std.specs.Ordering.{nat_cmp}
use Rattle.std.specs.BTreeMap.{get}
use Rattle.strand_order.specs.declared.seen.Seen.{Seen}
use Rattle.strand_order.specs.Seen.{lasts_in, IsSeen, AreSmall}
use Rattle.strand_order.proofs.Edges.Lasts.{core_is, word_is}
use Rattle.std.specs.Prelude.{slice_get, slice_index, slice_index_or, Some, nat_le, max, reverse, ◌==◌}
use Rattle.std.proofs.lemmas.Bool.{and_parts, eqb-true, both_ways}
use Rattle.strand_base.specs.declared.limits.TheConstants.{CORE_ROOM}
use Rattle.strand_inputs.specs.declared.mode.Mode.{Mode}
use Rattle.strand_inputs.specs.declared.mode.Mode.TheVariants.{Strict, Epoch, Strand}
use Rattle.strand_base.specs.Counting.{list_below}
use Rattle.strand_base.proofs.BelowBound.{list_agree}
use Rattle.strand_events.specs.declared.event.Event.{Event}
use Rattle.strand_events.specs.declared.event.Event.TheVariants.{Load, Store, Barrier, NewStrand, Join, Out}
use Rattle.strand_events.specs.Trace.{passes, core_of, word_of, is_new_strand, is_access, is_store, is_barrier, is_join, core_at, word_at, event_is, core_event_is}
use Rattle.strand_order.specs.Graph.{stores_word, access_or_join, drained_by, is_edge}
use Rattle.strand_order.specs.Lasts.{since_below, from_floor, cut, is_the_last, is_either}
use Rattle.strand_order.specs.declared.lasts.CoreLasts.{CoreLasts}
use Rattle.strand_order.specs.declared.lasts.Sources.{Sources}
use Rattle.strand_order.specs.CoreLasts.{core_lasts, no_lasts, begin_in, gate_in}
use Rattle.strand_order.specs.Sources.{is_access_to, word_lasts, AreWordLinks, AreCoreLinks, single_in, sources_of}
use Rattle.strand_order.specs.Walks.{AreSources, IsWalked}
use Rattle.strand_order.proofs.Edges.LastEvent.{le_yes, le_no, since_most, since_the_last, since_floor}
use Rattle.strand_order.proofs.Edges.Walk.{cut_most, nothing_before}
use Rattle.strand_order.proofs.Edges.Kinds.{edge_to_load, edge_to_store, edge_to_join_strict, edge_to_join, edge_to_barrier, edge_to_barrier_strict, edge_to_none, by_gates_epoch, by_gates_strand}

-- a chain that the links follow, and with the single event more just those from which edges lead to event j
pub record Found (mode : Mode) (t : List Event) (j : ℕ) (links : List ℕ) (s : Sources) : Type 0 where
  pub chain : ℕ → Bool
  pub sources : AreSources links s j chain
  pub edges : (i : ℕ) → i < j → is_edge mode t i j ≡ is_either chain s.single i

module _ (t : List Event) (j : ℕ) where
  gate_most : (mode : Mode) → gate_in mode (core_lasts t (core_at t j) j) ≤ j
  gate_most mode =
      let m = core_lasts t (core_at t j) j in
      omega (arith, cut_most (begin_in mode m) m.barrier, since_most j (core_event_is is_join (core_at t j) t), since_most j (core_event_is is_barrier (core_at t j) t))

  single_most : (mode : Mode) → single_in mode (core_lasts t (core_at t j) j) ≤ j
  single_most Strict = since_most j (core_event_is access_or_join (core_at t j) t)
  single_most Epoch = gate_most Epoch
  single_most Strand = gate_most Strand

  no_chain : (links : List ℕ) (single : ℕ) → single ≤ j → AreSources links (record { last = 0; floor = 0; single = single }) j (is_the_last 0)
  no_chain links single most = record {
    last = since_the_last j 0 (omega arith);
    back = λ i lt h. absurd (omega (arith, eqb-true (suc i) 0 h));
    single = most;
  }

  one_chain : (links : List ℕ) (last single : ℕ) → ((i : ℕ) → slice_index links i ≤ i) → last ≤ j → single ≤ j → AreSources links (record { last = last; floor = last; single = single }) j (is_the_last last)
  one_chain links last single back most le = record {
    last = since_the_last j last most ∙ sym (rw (le_yes last last (omega arith)) refl);
    back = λ i lt h.
        let same : suc i ≡ last = eqb-true (suc i) last h in
        let low : nat_le last (slice_index links i) ≡ false = le_no last (slice_index links i) (omega (arith, back i, same)) in
        ap (λ b. cond b (slice_index links i) 0) low ∙ sym (ap (λ m. since_below i (is_the_last m)) (sym same) ∙ nothing_before i);
    single = le;
  }

  floor_chain : (links : List ℕ) (test : ℕ → Bool) (floor single : ℕ) → ((i : ℕ) → i < j → test i ≡ true → slice_index links i ≡ since_below i test) → single ≤ j → AreSources links (record { last = since_below j test; floor = floor; single = single }) j (from_floor test floor)
  floor_chain links test floor single back le = record {
    last = since_floor j test floor;
    back = λ i lt h. ap (cut floor) (back i lt (and_parts (test i) (nat_le floor (i + 1)) h).0) ∙ sym (since_floor i test floor);
    single = le;
  }

  word_back : (links : List ℕ) → AreWordLinks t j links → (i : ℕ) → i < j → is_access_to t (word_at t j) i ≡ true → slice_index links i ≡ since_below i (is_access_to t (word_at t j))
  word_back links a i lt h =
      let parts = and_parts (event_is is_access t i) (word_at t i == word_at t j) h in
      a.back i lt parts.0 ∙ ap (λ w. since_below i (is_access_to t w)) (eqb-true (word_at t i) (word_at t j) parts.1)

  core_back : (links : List ℕ) → AreCoreLinks t j links → (i : ℕ) → i < j → core_event_is drained_by (core_at t j) t i ≡ true → slice_index links i ≡ since_below i (core_event_is drained_by (core_at t j) t)
  core_back links a i lt h =
      let parts = and_parts (event_is drained_by t i) (core_at t i == core_at t j) h in
      a.back i lt parts.0 ∙ ap (λ c. since_below i (core_event_is drained_by c t)) (eqb-true (core_at t i) (core_at t j) parts.1)

  -- an access has its sources among its word's, any other event among its core's
  pub found_word : (mode : Mode) (e : Event) (links : List ℕ) → slice_get t j ≡ Some e → is_access e ≡ true → ((i : ℕ) → slice_index links i ≤ i) → AreWordLinks t j links → Found mode t j links (sources_of mode e (core_lasts t (core_at t j) j) (word_lasts t (word_at t j) j))
  found_word mode (Load core word) links at is back a =
      let last = since_below j (stores_word t (word_at t j)) in
      record {
        chain = is_the_last last;
        sources = one_chain links last (single_in mode (core_lasts t (core_at t j) j)) back (since_most j (stores_word t (word_at t j))) (single_most mode);
        edges = λ i lt. edge_to_load t i j lt mode (ap (passes access_or_join) at) (ap (passes is_access) at) (ap (passes is_store) at) (ap (passes is_barrier) at) (ap (passes is_join) at);
      }
  found_word mode (Store persist core word value) links at is back a =
      let last = since_below j (stores_word t (word_at t j)) in
      record {
        chain = from_floor (is_access_to t (word_at t j)) last;
        sources = floor_chain links (is_access_to t (word_at t j)) last (single_in mode (core_lasts t (core_at t j) j)) (word_back links a) (single_most mode);
        edges = λ i lt. edge_to_store t i j lt mode (ap (passes access_or_join) at) (ap (passes is_access) at) (ap (passes is_store) at) (ap (passes is_barrier) at) (ap (passes is_join) at);
      }
  found_word mode (Barrier core) links at is back a = absurd (both_ways (is_access (Barrier core)) refl is)
  found_word mode (NewStrand core) links at is back a = absurd (both_ways (is_access (NewStrand core)) refl is)
  found_word mode (Join core) links at is back a = absurd (both_ways (is_access (Join core)) refl is)
  found_word mode (Out core value) links at is back a = absurd (both_ways (is_access (Out core value)) refl is)

  -- the chain of what a barrier or a join drains
  found_drained : (mode : Mode) (links : List ℕ) (floor single : ℕ) → AreCoreLinks t j links → single ≤ j
      → ((i : ℕ) → i < j → is_edge mode t i j ≡ is_either (from_floor (core_event_is drained_by (core_at t j) t) floor) single i)
      → Found mode t j links (record { last = (core_lasts t (core_at t j) j).drained; floor = floor; single = single })
  found_drained mode links floor single a le edges = record {
    chain = from_floor (core_event_is drained_by (core_at t j) t) floor;
    sources = floor_chain links (core_event_is drained_by (core_at t j) t) floor single (core_back links a) le;
    edges = edges;
  }

  found_barrier : (mode : Mode) (core : ℕ) (links : List ℕ) → slice_get t j ≡ Some (Barrier core) → AreCoreLinks t j links → Found mode t j links (sources_of mode (Barrier core) (core_lasts t (core_at t j) j) (word_lasts t (word_at t j) j))
  found_barrier Strict core links at a = record { chain = is_the_last 0; sources = no_chain links 0 (omega arith); edges = λ i lt. edge_to_barrier_strict t i j lt (ap (passes access_or_join) at) (ap (passes is_access) at) }
  found_barrier Epoch core links at a =
      let m = core_lasts t (core_at t j) j in
      found_drained Epoch links (suc (max (begin_in Epoch m) (gate_in Epoch m))) (gate_in Epoch m) a (gate_most Epoch) (λ i lt. edge_to_barrier t i j lt Epoch (by_gates_epoch t i j lt) (ap (passes is_access) at) (ap (passes is_barrier) at) (ap (passes is_join) at))
  found_barrier Strand core links at a =
      let m = core_lasts t (core_at t j) j in
      found_drained Strand links (suc (max (begin_in Strand m) (gate_in Strand m))) (gate_in Strand m) a (gate_most Strand) (λ i lt. edge_to_barrier t i j lt Strand (by_gates_strand t i j lt) (ap (passes is_access) at) (ap (passes is_barrier) at) (ap (passes is_join) at))

  found_join : (mode : Mode) (core : ℕ) (links : List ℕ) → slice_get t j ≡ Some (Join core) → AreCoreLinks t j links → Found mode t j links (sources_of mode (Join core) (core_lasts t (core_at t j) j) (word_lasts t (word_at t j) j))
  found_join Strict core links at a = record {
    chain = is_the_last 0;
    sources = no_chain links (core_lasts t (core_at t j) j).step (single_most Strict);
    edges = λ i lt. edge_to_join_strict t i j lt (ap (passes access_or_join) at) (ap (passes is_access) at);
  }
  found_join Epoch core links at a = found_drained Epoch links (core_lasts t (core_at t j) j).join 0 a (omega arith) (λ i lt. edge_to_join t i j lt Epoch (by_gates_epoch t i j lt) (ap (passes is_access) at) (ap (passes is_barrier) at) (ap (passes is_join) at))
  found_join Strand core links at a = found_drained Strand links (core_lasts t (core_at t j) j).join 0 a (omega arith) (λ i lt. edge_to_join t i j lt Strand (by_gates_strand t i j lt) (ap (passes is_access) at) (ap (passes is_barrier) at) (ap (passes is_join) at))

  pub found_core : (mode : Mode) (e : Event) (links : List ℕ) → slice_get t j ≡ Some e → is_access e ≡ false → AreCoreLinks t j links → Found mode t j links (sources_of mode e (core_lasts t (core_at t j) j) (word_lasts t (word_at t j) j))
  found_core mode (Load core word) links at none a = absurd (both_ways (is_access (Load core word)) none refl)
  found_core mode (Store persist core word value) links at none a = absurd (both_ways (is_access (Store persist core word value)) none refl)
  found_core mode (Barrier core) links at none a = found_barrier mode core links at a
  found_core mode (Join core) links at none a = found_join mode core links at a
  found_core mode (NewStrand core) links at none a = record { chain = is_the_last 0; sources = no_chain links 0 (omega arith); edges = λ i lt. edge_to_none t i j lt mode (ap (passes access_or_join) at) (ap (passes is_access) at) (ap (passes is_barrier) at) (ap (passes is_join) at) }
  found_core mode (Out core value) links at none a = record { chain = is_the_last 0; sources = no_chain links 0 (omega arith); edges = λ i lt. edge_to_none t i j lt mode (ap (passes access_or_join) at) (ap (passes is_access) at) (ap (passes is_barrier) at) (ap (passes is_join) at) }

  -- what was walked is the list of the events that have an edge to event j
  pub walked_edges : (mode : Mode) (links : List ℕ) (s : Sources) (list : List ℕ) → Found mode t j links s → IsWalked links s list → reverse list ≡ list_below j (λ i. is_edge mode t i j)
  walked_edges mode links s list f w = sym (w j f.chain f.sources) ∙ list_agree j (is_either f.chain s.single) (λ i. is_edge mode t i j) (λ i lt. sym (f.edges i lt))

-- what the last events that are kept give for an event
abbrev pub given_by : Seen → Event → Mode → Sources
given_by s e mode = sources_of mode e (slice_index_or s.cores (core_of e) no_lasts) (lasts_in (get nat_cmp s.words (word_of e)))

module _ (t : List Event) (n : ℕ) (e : Event) (at : slice_get t n ≡ Some e) (lt : core_of e < CORE_ROOM) (s : Seen) (k : IsSeen t n s) where
  pub core_lasts_are : slice_index_or s.cores (core_of e) no_lasts ≡ core_lasts t (core_at t n) n
  core_lasts_are = (k.cores).1 (core_of e) lt ∙ ap (λ c. core_lasts t c n) (sym (core_is t n e at))

  pub word_lasts_are : lasts_in (get nat_cmp s.words (word_of e)) ≡ word_lasts t (word_at t n) n
  word_lasts_are = k.words (word_of e) ∙ ap (λ w. word_lasts t w n) (sym (word_is t n e at))

  pub lasts_small : n < 2 ^ 32 - 1 → AreSmall (slice_index_or s.cores (core_of e) no_lasts)
  lasts_small small =
      let m = slice_index_or s.cores (core_of e) no_lasts in
      let core = core_at t n in (
        omega (arith, ap (λ (m : CoreLasts). m.barrier) core_lasts_are, since_most n (core_event_is is_barrier core t), small),
        omega (arith, ap (λ (m : CoreLasts). m.begin) core_lasts_are, since_most n (core_event_is is_new_strand core t), small),
        omega (arith, ap (λ (m : CoreLasts). m.join) core_lasts_are, since_most n (core_event_is is_join core t), small),
      )

  abbrev given : Mode → Sources
  given mode = given_by s e mode

  given_is : (mode : Mode) → given mode ≡ sources_of mode e (core_lasts t (core_at t n) n) (word_lasts t (word_at t n) n)
  given_is mode = ap (λ m. sources_of mode e m (lasts_in (get nat_cmp s.words (word_of e)))) core_lasts_are ∙ ap (sources_of mode e (core_lasts t (core_at t n) n)) word_lasts_are

  -- the last of a chain is an event below n
  last_most : (mode : Mode) → (sources_of mode e (core_lasts t (core_at t n) n) (word_lasts t (word_at t n) n)).last ≤ n
  last_most mode = go mode e
    where
      drained_most : (core_lasts t (core_at t n) n).drained ≤ n
      drained_most = since_most n (core_event_is drained_by (core_at t n) t)

      go : (mode : Mode) (e : Event) → (sources_of mode e (core_lasts t (core_at t n) n) (word_lasts t (word_at t n) n)).last ≤ n
      go mode (Load core word) = since_most n (stores_word t (word_at t n))
      go mode (Store persist core word value) = since_most n (is_access_to t (word_at t n))
      go mode (NewStrand core) = omega arith
      go mode (Out core value) = omega arith
      go Strict (Barrier core) = omega arith
      go Epoch (Barrier core) = drained_most
      go Strand (Barrier core) = drained_most
      go Strict (Join core) = omega arith
      go Epoch (Join core) = drained_most
      go Strand (Join core) = drained_most

  pub last_among : (mode : Mode) → ((given_by s e mode).last ≤ length s.word_links.items) × ((given_by s e mode).last ≤ length s.core_links.items)
  last_among mode =
      let same = ap (λ (x : Sources). x.last) (given_is mode) in
      (omega (arith, same, last_most mode, (k.word_links).long), omega (arith, same, last_most mode, (k.core_links).long))

  pub word_walk : (mode : Mode) (list : List ℕ) → is_access e ≡ true → IsWalked s.word_links.items (given_by s e mode) list → reverse list ≡ list_below n (λ i. is_edge mode t i n)
  word_walk mode list is w = walked_edges t n mode s.word_links.items (given mode) list (subst (Found mode t n s.word_links.items) (sym (given_is mode)) (found_word t n mode e s.word_links.items at is k.word_back k.word_links)) w

  pub core_walk : (mode : Mode) (list : List ℕ) → is_access e ≡ false → IsWalked s.core_links.items (given_by s e mode) list → reverse list ≡ list_below n (λ i. is_edge mode t i n)
  core_walk mode list none w = walked_edges t n mode s.core_links.items (given mode) list (subst (Found mode t n s.core_links.items) (sym (given_is mode)) (found_core t n mode e s.core_links.items at none k.core_links)) w
