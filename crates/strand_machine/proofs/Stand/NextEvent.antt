-- Serves clause parts of Machine::step: a core's next event, its item, and the parts with it at the trace's end.
use Rattle.std.proofs.Common.{◌≡◌, ℕ, suc, ◌+◌, ◌-◌, ◌<◌, ◌≤◌, Bool, true, false, inl, inr, List, [], ◌∷◌, ◌++◌, length, refl, sym, ap, subst, ◌∙◌, arith}
use Rattle.std.specs.Prelude.{◌^◌, slice_get, slice_index, Some, None, if◌then◌else◌}
use Rattle.std.specs.declared.option.Option.{Option}
use Rattle.std.proofs.lemmas.Bool.{cases_Bool}
use Rattle.std.proofs.lemmas.List.{length-map, length-set}
use Rattle.std.proofs.lemmas.Option.{slice_get_within}
use Rattle.strand_base.specs.declared.limits.TheConstants.{CORE_ROOM}
use Rattle.strand_base.specs.Counting.{count_below}
use Rattle.strand_base.proofs.BelowBound.{count_yes, list_length}
use Rattle.strand_inputs.specs.declared.conflict.Conflict.TheVariants.{Tag}
use Rattle.strand_inputs.specs.declared.mode.Mode.{Mode}
use Rattle.strand_inputs.specs.Settings.{Settings}
use Rattle.strand_exec.specs.Core.{Extents}
use Rattle.strand_events.specs.declared.event.Event.{Event}
use Rattle.strand_events.specs.declared.event.Event.TheVariants as events
use Rattle.strand_events.specs.Trace.{core_of, word_of, is_access, is_store, is_persist, is_barrier, event_is, core_event_is, epoch, passes, persists_of, value_at, value_in, word_at, word_in, persist_number}
use Rattle.strand_events.specs.Vectors.{waits_after}
use Rattle.strand_events.proofs.TraceInvariant.{last_is}
use Rattle.strand_events.proofs.PersistOrder.Epochs.{access_begins_none}
use Rattle.strand_rules.specs.Visible.{Visible, with_event, retire}
use Rattle.strand_rules.specs.Cycle.{State, gone, is_item, core_after, next_event}
use Rattle.strand_rules.specs.Looking.{next_strand}
use Rattle.strand_rules.specs.Machine.{Machine}
use Rattle.strand_rules.proofs.Front.{persist_item}
use Rattle.strand_rules.proofs.Order.Sets.Event.{length_grown}
use Rattle.strand_rules.proofs.IsReached.{reached_good}
use Rattle.strand_rules.proofs.Retire.Trace.{retired_trace}
use Rattle.strand_rules.proofs.Setup.{retired_cores}
use Rattle.strand_queue.specs.declared.item.Item.{Item}
use Rattle.strand_queue.specs.declared.item.Item.TheVariants.{Persist, Barrier, NewStrand}
use Rattle.strand_tags.specs.Access.{access, noted_as}
use Rattle.strand_tags.specs.WaitEntries.{KeepsWaits, wait_entry}
use Rattle.strand_tags.specs.TagsSeen.{TagsSeen, CanAsk}
use Rattle.strand_tags.specs.Traces.{noted_wait}
use Rattle.strand_tags.specs.declared.core_waits.CoreWaits.{CoreWaits}
use Rattle.strand_tags.proofs.ConflictWaits.{keeps_own}
use Rattle.strand_events.specs.Prefixes.{core_persists, made_below}
use Rattle.strand_cache.specs.Seen.{Seen}
use Rattle.strand_machine.specs.Cached.{CacheStands}
use Rattle.strand_machine.specs.Changed.{Notes, tallied, with_made}
use Rattle.strand_machine.specs.Machine.{FitsCore, IsRingMachine, RingMachine}
use Rattle.strand_machine.specs.Stand.{PartsSeen, Stand, Tally, TagsStand, Waiting, item_at, newest_item, no_tally, persist_waits, tally_at}
use Rattle.strand_machine.proofs.Stand.Counts.{next_access, no_begin, own_count, strand_grown}
use Rattle.strand_machine.proofs.Stand.Machine.{HasRooms, rooms_with}
use Rattle.strand_machine.proofs.Turn.SendWrite.{flight_taken}
use Rattle.strand_machine.proofs.Stand.Core.{can_ask, can_note, longer, tags_noted, tags_same}
use Rattle.strand_machine.proofs.Stand.PersistWaits.{kept_made, persist_waits_longer, persist_waits_most, tagged_wait}
use Rattle.strand_machine.proofs.Stand.Event.{CountsStand, stand_item, stand_other, tally_kept, tally_more, with_waits}
use Rattle.strand_machine.proofs.Stand.SendWrite.{at_set}

-- core n's instruction makes event e
pub record IsNext (r : RingMachine) (n : ℕ) (e : Event) : Type 0 where
  pub holds : IsRingMachine r
  pub there : n < length r.machine.state.now.cores
  pub fits : FitsCore r.machine.program.sizes n e
  pub next : next_event r.machine.program r.machine.state.now n ≡ Some e

pub made_tags : (m : PartsSeen) (n : ℕ) (o : Option Item) → (with_made m n o).tags ≡ m.tags
made_tags m n None = refl
made_tags m n (Some item) = refl

pub made_waiting : (m : PartsSeen) (n : ℕ) (o : Option Item) → (with_made m n o).waiting ≡ m.waiting
made_waiting m n None = refl
made_waiting m n (Some item) = refl

pub made_count : (m : PartsSeen) (n : ℕ) (o : Option Item) → length (with_made m n o).tallies ≡ length m.tallies
made_count m n None = refl
made_count m n (Some item) = length-set m.tallies n (tallied (tally_at m n) item)

tallied_waits : (c : Tally) (item : Item) → (tallied c item).waits ≡ c.waits
tallied_waits c (Persist number word value epoch) = refl
tallied_waits c Barrier = refl
tallied_waits c NewStrand = refl

made_waits : (m : PartsSeen) (n : ℕ) (o : Option Item) → n < length m.tallies → (tally_at (with_made m n o) n).waits ≡ (tally_at m n).waits
made_waits m n None lt = refl
made_waits m n (Some item) lt = ap (λ (c : Tally). c.waits) (at_set m.tallies n (tallied (tally_at m n) item) no_tally lt) ∙ tallied_waits (tally_at m n) item

tallied_room : (c : Tally) (item : Item) → (tallied c item).room ≡ c.room
tallied_room c (Persist number word value epoch) = refl
tallied_room c Barrier = refl
tallied_room c NewStrand = refl

-- the item that an event at the end of a trace stands for, if it does
abbrev pub made_of : Mode → List Event → Event → Option Item
made_of mode t e = if is_item mode e then Some (item_at mode (t ++ e ∷ []) (length t)) else None

pub newest_is : (mode : Mode) (t : List Event) (e : Event) → newest_item mode (t ++ e ∷ []) ≡ made_of mode t e
newest_is mode t e =
    let last : length (t ++ e ∷ []) - 1 ≡ length t = omega (arith, length_grown t e) in
    ap (λ k. if event_is (is_item mode) (t ++ e ∷ []) k then Some (item_at mode (t ++ e ∷ []) k) else None) last
    ∙ ap (λ b. if b then Some (item_at mode (t ++ e ∷ []) (length t)) else None) (last_is (is_item mode) t e)

module _ (r : RingMachine) (e : Event) (is : IsNext r (core_of e) e) where
  abbrev n : ℕ
  n = core_of e

  abbrev g : Settings
  g = r.machine.config

  abbrev s : State
  s = r.machine.state

  abbrev t : List Event
  t = s.now.trace

  abbrev x : Extents
  x = r.machine.program.sizes

  abbrev v : Visible
  v = retire r.machine.program s.now n

  abbrev retired : List ℕ
  retired = s.retired ++ n ∷ []

  within : (core : ℕ) → gone s core ≤ count_below (length t) (core_event_is (is_item g.mode) core t)
  within = (reached_good g r.machine.program s is.holds.reached).ordered.within

  abbrev then_ : State
  then_ = longer g s e v.cores v.memory retired within

  after_is : core_after r.machine.program s n (Some e) ≡ then_
  after_is = ap (λ (t : List Event). record s { now = record { cores = v.cores; memory = v.memory; trace = t }; retired = retired; buffered = s.buffered ++ false ∷ []; durable = s.durable ++ false ∷ [] })
      (retired_trace r.machine.program s.now n ∙ ap (with_event t) is.next)

  same_cores : length v.cores ≡ length s.now.cores
  same_cores = retired_cores r.machine.program s.now n

  inside : (i p : ℕ) → slice_get s.flight i ≡ Some p → p < length t
  inside i p at = (flight_taken r is.holds i p at).within

  abbrev item : Item
  item = item_at g.mode (t ++ e ∷ []) (length t)

  abbrev own_made : ℕ
  own_made = made_below t n (length t) + (if is_persist e then 1 else 0)

  tally_stands : CountsStand g then_ n (tally_at (with_made r.parts n (made_of g.mode t e)) n)
  tally_stands = elim (cases_Bool (is_item g.mode e)) [
    | inl yes_ ↦ subst (λ b. CountsStand g then_ n (tally_at (with_made r.parts n (if b then Some item else None)) n)) (sym yes_)
        (subst (CountsStand g then_ n) (sym (at_set r.parts.tallies n (tallied (tally_at r.parts n) item) no_tally (omega (arith, is.there, is.holds.stand.tally_count))))
        (tally_more g s e v.cores v.memory retired within is.holds.kept.durable (tally_at r.parts n) yes_ (is.holds.stand.tallies n is.there)))
    | inr no_ ↦ subst (λ b. CountsStand g then_ n (tally_at (with_made r.parts n (if b then Some item else None)) n)) (sym no_)
        (tally_kept g s e v.cores v.memory retired within is.holds.kept.durable n (tally_at r.parts n) (rw no_ refl) (is.holds.stand.tallies n is.there))
  ]

  numbers_length : length (tally_at (with_made r.parts n (made_of g.mode t e)) n).numbers ≡ own_made
  numbers_length =
      let next : length (t ++ e ∷ []) ≡ length t + 1 = omega (arith, length_grown t e) in
      ap length tally_stands.numbers ∙ length-map (core_persists (t ++ e ∷ []) n) _ ∙ list_length (length (t ++ e ∷ [])) (core_event_is is_persist n (t ++ e ∷ []))
      ∙ ap (λ k. count_below k (core_event_is is_persist n (t ++ e ∷ []))) next ∙ own_count t e

  strand_is : is_access e ≡ true → (tally_at (with_made r.parts n (made_of g.mode t e)) n).strand ≡ next_strand g.mode t n
  strand_is yes_ =
      let none = no_begin g.mode e (access_begins_none e yes_) in
      tally_stands.strand ∙ strand_grown g.mode t e n ∙ (rw none (omega arith))

  -- an access of it can be asked of the tags
  pub own_asks : is_access e ≡ true → CanAsk r.parts.tags (access n (tally_at (with_made r.parts n (made_of g.mode t e)) n).strand (word_of e) (is_store e))
  own_asks yes_ = subst (λ k. CanAsk r.parts.tags (access n k (word_of e) (is_store e))) (sym (strand_is yes_))
      (can_ask g s e v.cores v.memory retired within x same_cores r.parts.tags is.holds.stand.tags is.there (is.fits.word yes_) (omega (arith, is.holds.kept.few_events, is.holds.kept.made_within, is.holds.kept.few_steps)))

  pub own_counts : slice_index r.parts.tags.made n ≤ length (tally_at (with_made r.parts n (made_of g.mode t e)) n).numbers
  own_counts = let most = can_note g s e v.cores v.memory retired within x same_cores r.parts.tags is.holds.stand.tags is.there in omega (arith, most, numbers_length)

  -- its wait can be kept
  pub own_room : r.machine.made < r.machine.steps → length r.parts.waiting.waits < r.parts.waiting.room
  own_room room = omega (arith, ap length is.holds.stand.waits, persist_waits_most g t, is.holds.kept.few_events, room, is.holds.wait_room)

  tally_waits : (tally_at (with_made r.parts n (made_of g.mode t e)) n).waits ≡ (tally_at r.parts n).waits
  tally_waits = made_waits r.parts n (made_of g.mode t e) (omega (arith, is.there, is.holds.stand.tally_count))

  pub own_waits_made : r.machine.made < r.machine.steps → g.conflict ≡ Tag → (tally_at (with_made r.parts n (made_of g.mode t e)) n).waits.made < 2 ^ 32 - 1
  own_waits_made room tag = omega (arith, ap (λ (w : CoreWaits). w.made) tally_waits, kept_made g.mode t n (tally_at r.parts n).waits ((is.holds.stand.tallies n is.there).waits tag), is.holds.kept.few_events, room, is.holds.kept.few_steps)

  module _ (tags : TagsSeen) (wait : List ℕ) (wait_is : wait ≡ noted_wait g.conflict g.mode (t ++ e ∷ []) (length t))
      (noted : is_access e ≡ true → Notes r.parts.tags tags (noted_as (access n (tally_at (with_made r.parts n (made_of g.mode t e)) n).strand (word_of e) (is_store e)) (length (tally_at (with_made r.parts n (made_of g.mode t e)) n).numbers) wait))
      (same : is_access e ≡ false → tags ≡ r.parts.tags)
      (cache : Seen) (cached : CacheStands g (core_after r.machine.program s n (Some e)) cache)
      (waits : CoreWaits) (waiting : Waiting) (waits_are : waiting.waits ≡ (if is_persist e then r.parts.waiting.waits ++ wait ∷ [] else r.parts.waiting.waits))
      (follows : g.conflict ≡ Tag → (c : ℕ) → c < CORE_ROOM → wait_entry waits c ≡ waits_after g.mode e (slice_index wait c) (wait_entry (tally_at (with_made r.parts n (made_of g.mode t e)) n).waits c)) where
    tags_stand : TagsStand g x then_ tags
    tags_stand = elim (cases_Bool (is_access e)) [
      | inl yes_ ↦
          let new : Notes r.parts.tags tags (noted_as (next_access g.mode t e) own_made (noted_wait g.conflict g.mode (t ++ e ∷ []) (length t))) =
          subst (λ w. Notes r.parts.tags tags (noted_as (next_access g.mode t e) own_made w)) wait_is
          (subst (λ k. Notes r.parts.tags tags (noted_as (next_access g.mode t e) k wait)) numbers_length
          (subst (λ k. Notes r.parts.tags tags (noted_as (access n k (word_of e) (is_store e)) (length (tally_at (with_made r.parts n (made_of g.mode t e)) n).numbers) wait)) (strand_is yes_) (noted yes_))) in
          let size : length r.parts.tags.made ≡ length r.parts.tags.strands =
          sym (ap length new.made ∙ length-set r.parts.tags.made n own_made) ∙ new.cores ∙ ap length new.strands ∙ length-set r.parts.tags.strands n (next_strand g.mode t n) in
          tags_noted g s e v.cores v.memory retired within x same_cores r.parts.tags is.holds.stand.tags tags yes_ is.there new.extents new.strands new.made size new.stands
      | inr no_ ↦ subst (TagsStand g x then_) (sym (same no_)) (tags_same g s e v.cores v.memory retired within x same_cores r.parts.tags is.holds.stand.tags no_)
    ]

    cache_stand : CacheStands g then_ cache
    cache_stand = subst (λ s. CacheStands g s cache) after_is cached

    -- what the core keeps of waits is that of the longer trace
    waits_keep : g.conflict ≡ Tag → KeepsWaits g.mode (t ++ e ∷ []) n waits
    waits_keep tag = keeps_own g.mode t e (tally_at r.parts n).waits waits wait ((is.holds.stand.tallies n is.there).waits tag)
        (λ c few. ap (λ w. slice_index w c) wait_is ∙ tagged_wait g.conflict g.mode (t ++ e ∷ []) (length t) c tag few)
        (λ c few. follows tag c few ∙ ap (λ w. waits_after g.mode e (slice_index wait c) (wait_entry w c)) tally_waits)

    -- and so are the persists' waits
    waits_stand : waiting.waits ≡ persist_waits g (t ++ e ∷ [])
    waits_stand = waits_are ∙ cc (is.holds.stand.waits, wait_is) ∙ sym (persist_waits_longer g t e)

    pub own_stand : Stand g x (core_after r.machine.program s n (Some e)) (with_waits (record (with_made r.parts n (made_of g.mode t e)) { tags = tags; cache = cache }) n waits waiting)
    own_stand = subst (λ s. Stand g x s (with_waits (record (with_made r.parts n (made_of g.mode t e)) { tags = tags; cache = cache }) n waits waiting)) (sym after_is) (elim (cases_Bool (is_item g.mode e)) [
      | inl yes_ ↦ subst (λ b. Stand g x then_ (with_waits (record (with_made r.parts n (if b then Some item else None)) { tags = tags; cache = cache }) n waits waiting)) (sym yes_)
          (stand_item g s e v.cores v.memory retired within is.holds.kept.durable x r.parts tags cache waits waiting is.holds.stand same_cores inside tags_stand cache_stand is.there waits_keep waits_stand yes_)
      | inr no_ ↦ subst (λ b. Stand g x then_ (with_waits (record (with_made r.parts n (if b then Some item else None)) { tags = tags; cache = cache }) n waits waiting)) (sym no_)
          (stand_other g s e v.cores v.memory retired within is.holds.kept.durable x r.parts tags cache waits waiting is.holds.stand same_cores inside tags_stand cache_stand is.there waits_keep waits_stand no_)
    ])

-- the room for what is counted stays
pub rooms_made : (m : Machine) (parts : PartsSeen) (n : ℕ) (o : Option Item) → length parts.tallies ≡ length m.state.now.cores → HasRooms m parts → HasRooms m (with_made parts n o)
rooms_made m parts n None count rooms = rooms
rooms_made m parts n (Some item) count rooms = rooms_with m parts n (tallied (tally_at parts n) item) count (tallied_room (tally_at parts n) item) rooms

-- the item of a persist at the end of a trace
pub newest_store : (mode : Mode) (t : List Event) (persist : Bool) (core word value : ℕ) → slice_get t (length t - 1) ≡ Some (events.Store persist core word value) → persist ≡ true
    → newest_item mode t ≡ Some (Persist (length (persists_of t) - 1) word value (epoch mode t (length t - 1)))
newest_store mode t persist core word value at yes_ =
    let k : ℕ = length t - 1 in
    let is : event_is is_persist t k ≡ true = ap (passes is_persist) at ∙ yes_ in
    let carried : event_is (is_item mode) t k ≡ true = ap (passes (is_item mode)) at ∙ persist_item mode (events.Store persist core word value) yes_ in
    let inside = slice_get_within t k (events.Store persist core word value) at in
    let next : length t ≡ suc k = omega (arith, inside) in
    let number : length (persists_of t) - 1 ≡ persist_number t k =
    (let all : length (persists_of t) ≡ suc (persist_number t k) = list_length (length t) (event_is is_persist t) ∙ ap (λ n. count_below n (event_is is_persist t)) next ∙ count_yes k (event_is is_persist t) is in omega (arith, all)) in
    ap (λ b. if b then Some (item_at mode t k) else None) carried
    ∙ ap (λ b. Some (if b then Persist (persist_number t k) (word_at t k) (value_at t k) (epoch mode t k) else if event_is is_barrier t k then Barrier else NewStrand)) is
    ∙ ap (λ o. Some (Persist (persist_number t k) (word_in o) (value_in o) (epoch mode t k))) at
    ∙ ap (λ n. Some (Persist n word value (epoch mode t k))) (sym number)
