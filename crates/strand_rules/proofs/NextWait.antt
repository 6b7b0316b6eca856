-- Serves clause step of PlainMachine::step under tag: the next wait, and whether a wait is met.
-- The wait of the next event is the greatest of what the accesses so far hand on to it.
use Rattle.std.proofs.Common.{◌≡◌, ℕ, suc, ◌+◌, ◌<◌, ◌≤◌, Bool, true, false, ◌&&◌, ◌||◌, List, [], ◌∷◌, ◌++◌, length, refl, sym, ap, ◌∙◌, arith}
use Rattle.std.specs.Prelude.{not, ◌==◌, nat_lt, slice_index}
use Rattle.std.proofs.lemmas.Bool.{eqb-true, lt-ltb, and_parts, ltb-true, ltb-false}
use Rattle.strand_base.specs.Counting.{any_below}
use Rattle.strand_base.proofs.BelowBound.{any_agree, get_last, count_yes, list_length}
use Rattle.std.proofs.lemmas.List.{length-map}
use Rattle.strand_base.specs.declared.limits.TheConstants.{CORE_ROOM}
use Rattle.strand_inputs.specs.declared.mode.Mode.{Mode}
use Rattle.strand_events.specs.declared.event.Event.{Event}
use Rattle.strand_events.specs.Fits.{AllFit}
use Rattle.strand_events.specs.Trace.{is_persist, is_store, is_access, core_of, word_of, core_at, word_at, event_is, core_event_is, same_strand}
use Rattle.strand_events.specs.Order.{Set, core_orders, directly_before}
use Rattle.strand_events.specs.Greatest.{max_below}
use Rattle.strand_events.specs.Prefixes.{made_below, core_marks, core_persists, durable_prefix}
use Rattle.strand_events.specs.Waits.{made_at, handed, wait, is_met}
use Rattle.strand_events.proofs.Waits.Prefixes.{met_within}
use Rattle.strand_events.proofs.Waits.Counts.{wait_is}
use Rattle.strand_events.proofs.Waits.Greatest.{max_agree}
use Rattle.strand_events.proofs.Waits.DurablePrefix.{leading_most, missing_up_to}
use Rattle.strand_events.proofs.LongerTrace.{event_is_kept, core_kept, word_kept, number_kept, orders_kept}
use Rattle.strand_events.proofs.Waits.LongerTrace.{persists_kept, wait_kept}
use Rattle.strand_rules.specs.Looking.{is_in_next}
use Rattle.strand_rules.specs.Next.{is_next, made_next, hands_next, ArePrefixes}
use Rattle.strand_rules.proofs.Next.{core_new, number_new}
use Rattle.strand_rules.proofs.TraceLoop.{core_few}

module _ (mode : Mode) (t : List Event) (e : Event) where
  strand_next : (a : ℕ) → a < length t → same_strand mode (t ++ e ∷ []) a (length t) ≡ is_in_next mode t e a
  strand_next a lt = cc (core_kept t e a lt, core_new t e, number_kept t e mode a lt, number_new mode t e)

  either : (x y r r' : Bool) → (y ≡ true → r ≡ r') → (x || (y && r)) ≡ (x || (y && r'))
  either true y r r' same = refl
  either false true r r' same = same refl
  either false false r r' same = refl

  tidy : (x y w s z : Bool) → (true && x && y && ((x && y && w && s) || z)) ≡ (x && y && ((w && s) || z))
  tidy true true w s z = refl
  tidy true false w s z = refl
  tidy false y w s z = refl

  direct_next : (a : ℕ) → a < length t → directly_before mode (t ++ e ∷ []) a (length t) ≡ is_next mode t e a
  direct_next a lt =
      let u : List Event = t ++ e ∷ [] in
      let n : ℕ = length t in
      let upto : length t ≤ length t = omega arith in
      let acc : Bool = event_is is_access t a in
      let word : Bool = word_at t a == word_of e in
      let store : Bool = event_is is_store t a || is_store e in
      let same : Bool = core_at t a == core_of e in
      let orders : core_orders mode (core_at u a) u a n ≡ core_orders mode (core_at t a) t a n = ap (λ c. core_orders mode c u a n) (core_kept t e a lt) ∙ orders_kept t e mode (core_at t a) a n upto in
      rw (lt-ltb a n lt, event_is_kept t e is_access a lt, event_is_kept t e is_store a lt, word_kept t e a lt, orders, core_kept t e a lt, get_last t e)
      (tidy acc (is_access e) word store (same && core_orders mode (core_at t a) t a n)
      ∙ ap (λ b. acc && is_access e && b) (either (word && store) same (core_orders mode (core_at t a) t a n) (core_orders mode (core_of e) t a n) (λ own. ap (λ c. core_orders mode c t a n) (eqb-true (core_at t a) (core_of e) own))))

  module _ (c : ℕ) where
    handed_next : (a : ℕ) → a < length t → handed mode (t ++ e ∷ []) (wait mode (t ++ e ∷ []) c) c (length t) a ≡ hands_next mode t e c a
    handed_next a lt =
        let upto : a + 1 ≤ length t = omega arith in
        let direct : directly_before mode (t ++ e ∷ []) a (length t) ≡ is_next mode t e a = direct_next a lt in
        let kept : wait mode (t ++ e ∷ []) c a ≡ wait mode t c a = wait_kept mode t e c a lt in
        let made : made_at mode (t ++ e ∷ []) c (length t) a ≡ made_next mode t e c a = cc (core_kept t e a lt, strand_next a lt, persists_kept mode t e c (a + 1) upto) in
        rw (direct, kept, made) refl

    pub next_is : wait mode (t ++ e ∷ []) c (length t) ≡ max_below (length t) (hands_next mode t e c)
    next_is = wait_is mode (t ++ e ∷ []) c (length t) ∙ max_agree (length t) (handed mode (t ++ e ∷ []) (wait mode (t ++ e ∷ []) c) c (length t)) (hands_next mode t e c) handed_next

-- a wait is met where no number of it is greater than that of the core's first persists that are all durable
pub met_by_prefixes : (mode : Mode) (t : List Event) (durable : Set) (prefixes : List ℕ) (x : ℕ) → AllFit t → ArePrefixes t durable prefixes
    → not (any_below CORE_ROOM (λ c. nat_lt (slice_index prefixes c) (wait mode t c x))) ≡ is_met mode t durable x
met_by_prefixes mode t durable prefixes x fits first =
    ap not (any_agree CORE_ROOM (λ c. nat_lt (slice_index prefixes c) (wait mode t c x)) (λ c. nat_lt (durable_prefix t durable c) (wait mode t c x)) (λ c few. cc (first c few)))
    ∙ sym (met_within mode t durable CORE_ROOM x (λ i below. core_few t i fits below))

-- the first persists of a core that are all durable, where a trace is gone over up to the first that isn't
module _ (t : List Event) (durable : Set) (core : ℕ) where
  abbrev missing : ℕ → Bool
  missing p = core_event_is is_persist core t p && not (durable p)

  reached : (end : ℕ) → end ≤ length t → any_below end missing ≡ false → made_below t core end ≤ durable_prefix t durable core
  reached end le none = ltb-false (durable_prefix t durable core) (made_below t core end) (sym (missing_up_to (core_event_is is_persist core t) durable (length t) end le) ∙ none)

  pub up_to_missing : (q : ℕ) → q < length t → any_below q missing ≡ false → missing q ≡ true → durable_prefix t durable core ≡ made_below t core q
  up_to_missing q lt none is =
      let upto : suc q ≤ length t = omega arith in
      let before : q ≤ length t = omega arith in
      let here : any_below (suc q) missing ≡ true = rw is refl in
      let less : durable_prefix t durable core < made_below t core (suc q) = ltb-true (durable_prefix t durable core) (made_below t core (suc q)) (sym (missing_up_to (core_event_is is_persist core t) durable (length t) (suc q) upto) ∙ here) in
      omega (arith, less, reached q before none, count_yes q (core_event_is is_persist core t) (and_parts (core_event_is is_persist core t q) (not (durable q)) is).0)

  pub none_missing : any_below (length t) missing ≡ false → durable_prefix t durable core ≡ made_below t core (length t)
  none_missing none = omega (arith, reached (length t) (omega arith) none, leading_most (core_marks t durable core), length-map (core_persists t core) durable, list_length (length t) (core_event_is is_persist core t))
