-- Serves accepted_certificates_refute, clause accepted of check, and refute, by few_lines.
-- Each needed event is or leads to a persist that every settled set holds, and the last line leaves no judged one.
use Rattle.std.proofs.Common.{◌≡◌, ℕ, zero, suc, ◌<◌, ◌≤◌, Bool, true, false, ◌||◌, inl, inr, List, [], ◌∷◌, Option, Some, None, Result, Ok, Err, length, refl, sym, ap, ◌∙◌, arith, subst}
use Rattle.std.specs.Prelude.{slice_get, IfOk}
use Rattle.std.proofs.lemmas.Bool.{cases_eq, cases_order, cases_Bool, or_cases, or_left, eqb-true, eq-eqb, ne_eqb, false≢true}
use Rattle.std.proofs.lemmas.Option.{slice_get_within}
use Rattle.strand_inputs.specs.declared.mode.Mode.{Mode}
use Rattle.strand_base.specs.Counting.{count_below}
use Rattle.strand_base.proofs.BelowBound.{count_yes, count_no, count_agree, at_or_below}
use Rattle.strand_events.specs.declared.event.Event.{Event}
use Rattle.strand_events.specs.Trace.{is_persist, is_access, value_at}
use Rattle.strand_events.specs.Order.{Set, directly_before}
use Rattle.strand_events.proofs.EventWithin.{event_within}
use Rattle.strand_events.proofs.PersistOrder.Epochs.{direct_parts}
use Rattle.strand_order.specs.Graph.{EdgePath}
use Rattle.strand_order.proofs.Paths.Before.{before_path}
use Rattle.strand_judge.specs.Judged.{Crash, IsJudged}
use Rattle.strand_judge.proofs.Least.Sets.{judged_settled}
use Rattle.strand_judge.proofs.Least.Roots.{Root, joined_root, edge_root, forced_root, asked_root, root_within, last_or_none}
use Rattle.strand_judge.proofs.Least.JoinedNumbers.{joined_within}
use Rattle.strand_refute.specs.declared.certificate.Reason.{Reason}
use Rattle.strand_refute.specs.declared.certificate.Reason.TheVariants.{Joined, Order, Match}
use Rattle.strand_refute.specs.declared.certificate.Forced.{Forced}
use Rattle.strand_refute.specs.declared.certificate.Ending.{Ending}
use Rattle.strand_refute.specs.CertificateSeen.{CertificateSeen}
use Rattle.strand_refute.specs.Accepted.{names, needed_by, Holds, IsAcceptedForced, Ends, IsAcceptedEnding, IsAccepted}
use Rattle.strand_base.specs.declared.out_of_memory.OutOfMemory.{OutOfMemory}
use Rattle.strand_refute.specs.declared.checking.Checked.{Checked}
use Rattle.strand_refute.specs.declared.checking.Checked.TheVariants.{Accepted, Rejected}
use Rattle.strand_refute.specs.Checked.{IsChecked, SaysAccepted}
use Rattle.strand_refute.proofs.Checks.Matches.{made_forced, made_asks}

-- line k names an event, and is accepted
abbrev pub NamesAt : Mode → List Event → Crash → List Forced → ℕ → Type 0
NamesAt mode t crash lines k = (f : Forced) × (slice_get lines k ≡ Some f) × IsAcceptedForced mode t crash (needed_by lines k) f

module _ (mode : Mode) (t : List Event) (crash : Crash) where
  path_root : (xs : List ℕ) (i j : ℕ) → EdgePath mode t i xs j → Root mode t crash j → Root mode t crash i
  path_root [] i j e r = edge_root mode t crash i j e r
  path_root (x ∷ xs) i j p r = edge_root mode t crash i x p.0 (path_root xs x j p.1 r)

  -- what comes directly before such an event
  direct_root : (a b : ℕ) → directly_before mode t a b ≡ true → Root mode t crash b → Root mode t crash a
  direct_root a b d r = let path = before_path mode t a b ([], d) in path_root path.0 a b path.1 r

  reason_root : (needed : Set) → ((e : ℕ) → needed e ≡ true → Root mode t crash e) → (e : ℕ) (reason : Reason) → Holds mode t crash needed e reason → Root mode t crash e
  reason_root needed rooted e Joined h = joined_root mode t crash e h
  reason_root needed rooted e (Order after) h = direct_root e after h.1 (rooted after h.0)
  reason_root needed rooted e (Match None) h = forced_root mode t crash _ e (made_forced t crash e h)
  reason_root needed rooted e (Match (Some after)) h = asked_root mode t crash after e (made_asks t crash needed e after h) (rooted after h.needed_is)

  -- what a line names is an event of the trace
  pub holds_within : (needed : Set) (e : ℕ) (reason : Reason) → Holds mode t crash needed e reason → e < length t
  holds_within needed e Joined h = joined_within t e h
  holds_within needed e (Order after) h = event_within is_access t e (direct_parts mode t e after h.1).1
  holds_within needed e (Match None) h = event_within is_persist t e h.offers.persist
  holds_within needed e (Match (Some after)) h = event_within is_persist t e h.offers.persist

  -- each needed event is such an event
  lines_root : (lines : List Forced) (n : ℕ) → ((k : ℕ) → k < n → NamesAt mode t crash lines k) → (e : ℕ) → needed_by lines n e ≡ true → Root mode t crash e
  lines_root lines zero accepted e h = absurd (false≢true h)
  lines_root lines (suc n) accepted e h = elim (or_cases (names e (slice_get lines n)) (needed_by lines n e) h) [
    | inl here ↦
        let a = accepted n (omega arith) in
        let same : a.0.event ≡ e = eqb-true a.0.event e (sym (ap (names e) a.1) ∙ here) in
        subst (Root mode t crash) same (reason_root (needed_by lines n) (lines_root lines n (λ k lt. accepted k (omega (arith, lt)))) a.0.event a.0.reason a.2.holds)
    | inr before ↦ lines_root lines n (λ k lt. accepted k (omega (arith, lt))) e before
  ]

  named_lines : (c : CertificateSeen) → IsAccepted mode t crash c → (k : ℕ) → k < length c.forced → NamesAt mode t crash c.forced k
  named_lines c a k lt = elim (a k (omega (arith, lt))) [ inl line ↦ line | inr last ↦ absurd (omega (arith, lt, last.1)) ]

  last_line : (c : CertificateSeen) → IsAccepted mode t crash c → (e : Ending) × IsAcceptedEnding t crash (needed_by c.forced (length c.forced)) e
  last_line c a = elim (a (length c.forced) (omega arith)) [
    | inl line ↦ absurd (omega (arith, slice_get_within c.forced (length c.forced) line.0 line.1))
    | inr last ↦ (last.0, last.3)
  ]

  -- the last line leaves no judged set
  ending_refutes : (needed : Set) → ((e : ℕ) → needed e ≡ true → Root mode t crash e) → (word : ℕ) (last : Option ℕ) → Ends t crash needed word last → (set : Set) → IsJudged mode t crash set → ⊥
  ending_refutes needed rooted word None e set j = elim (last_or_none t set crash.initial (length t) word) [
    | inr none ↦ e.differs (sym none.value ∙ j.agrees word e.has)
    | inl (l, last) ↦ e.none l (record { persist = last.persist; to = last.to; value = sym last.value ∙ j.agrees word e.has })
  ]
  ending_refutes needed rooted word (Some p) e set j =
      let held : set p ≡ true = root_within mode t crash p e.persist (rooted p e.needed_is) set (judged_settled mode t crash set j) in
      elim (last_or_none t set crash.initial (length t) word) [
        | inr none ↦ none.none p (event_within is_persist t p e.persist) e.persist e.to held
        | inl (l, last) ↦
            let value : value_at t l ≡ crash.found word = sym last.value ∙ j.agrees word e.has in
            elim (cases_order l p) [
              | inl same ↦ e.differs (ap (value_at t) (sym same) ∙ value)
              | inr others ↦ elim others [
                | inl before ↦ last.none p before (event_within is_persist t p e.persist) e.persist e.to held
                | inr after ↦ e.none l after (record { persist = last.persist; to = last.to; value = value })
              ]
            ]
      ]

  pub accepted_refutes : (c : CertificateSeen) → IsAccepted mode t crash c → (set : Set) → IsJudged mode t crash set → ⊥
  accepted_refutes c a set j =
      let last = last_line c a in
      ending_refutes (needed_by c.forced (length c.forced)) (lines_root c.forced (length c.forced) (named_lines c a)) last.0.word last.0.last last.1 set j

  checked_refutes : (c : CertificateSeen) (checked : Checked) → IsChecked mode t crash c checked → SaysAccepted mode t crash checked
  checked_refutes c Accepted a = accepted_refutes c a
  checked_refutes c (Rejected line) r = tt

  pub checks_refute : (c : CertificateSeen) (result : Result Checked OutOfMemory) → IfOk result (IsChecked mode t crash c) → IfOk result (SaysAccepted mode t crash)
  checks_refute c (Ok checked) h = checked_refutes c checked h
  checks_refute c (Err fault) h = tt

  -- one number more passes the test
  count_new : (n : ℕ) (test more : ℕ → Bool) (x : ℕ) → x < n → test x ≡ false → more x ≡ true → ((k : ℕ) → (k ≡ x → ⊥) → more k ≡ test k) → count_below n more ≡ suc (count_below n test)
  count_new zero test more x lt out here other = absurd (omega (arith, lt))
  count_new (suc n) test more x lt out here other = elim (cases_eq x n) [
    | inl e ↦
        let same : count_below n more ≡ count_below n test = count_agree n more test (λ k less. other k (λ bad. omega (arith, bad, less, e))) in
        omega (arith, count_yes n more (ap more (sym e) ∙ here), count_no n test (ap test (sym e) ∙ out), same)
    | inr ne ↦
        let below = count_new n test more x (at_or_below lt ne) out here other in
        let same : more n ≡ test n = other n (λ bad. ne (sym bad)) in
        elim (cases_Bool (test n)) [
          | inl yes_ ↦ omega (arith, count_yes n test yes_, count_yes n more (same ∙ yes_), below)
          | inr no_ ↦ omega (arith, count_no n test no_, count_no n more (same ∙ no_), below)
        ]
  ]

  count_most : (n : ℕ) (test : ℕ → Bool) → count_below n test ≤ n
  count_most zero test = omega arith
  count_most (suc n) test = elim (cases_Bool (test n)) [
    | inl yes_ ↦ omega (arith, count_yes n test yes_, count_most n test)
    | inr no_ ↦ omega (arith, count_no n test no_, count_most n test)
  ]

  -- each line names one event more
  lines_counted : (lines : List Forced) (n : ℕ) → ((k : ℕ) → k < n → NamesAt mode t crash lines k) → n ≤ count_below (length t) (needed_by lines n)
  lines_counted lines zero accepted = omega arith
  lines_counted lines (suc n) accepted =
      let a = accepted n (omega arith) in
      let x = a.0.event in
      let before = lines_counted lines n (λ k lt. accepted k (omega (arith, lt))) in
      let here : needed_by lines (suc n) x ≡ true = or_left (names x (slice_get lines n)) (needed_by lines n x) (ap (names x) a.1 ∙ eq-eqb x x refl) in
      let other : (k : ℕ) → (k ≡ x → ⊥) → needed_by lines (suc n) k ≡ needed_by lines n k = λ k ne. ap (λ b. b || needed_by lines n k) (ap (names k) a.1 ∙ ne_eqb x k (λ e. ne (sym e))) in
      omega (arith, before, count_new (length t) (needed_by lines n) (needed_by lines (suc n)) x (holds_within (needed_by lines n) x a.0.reason a.2.holds) a.2.not_needed here other)

  pub few_lines : (lines : List Forced) → ((k : ℕ) → k < length lines → NamesAt mode t crash lines k) → length lines ≤ length t
  few_lines lines accepted = omega (arith, lines_counted lines (length lines) accepted, count_most (length t) (needed_by lines (length lines)))
