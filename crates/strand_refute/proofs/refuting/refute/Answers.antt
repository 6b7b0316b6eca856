use Rattle.std.proofs.Common.{◌≡◌, Bool, List, arith, subst}
use Rattle.std.specs.Prelude.{MatchOption}
use Rattle.strand_events.specs.Order.{set_of}
use Rattle.strand_judge.specs.Verdicts.{NamesWord, IsRefuted}
use Rattle.strand_judge.specs.Words.{crash_of}
use Rattle.strand_refute.specs.Work.{IsNoneTo, IsLastTo}
use Rattle.strand_refute.proofs.Refutes.LastLine.{certified}
use Rattle.strand_refute.proofs.refuting.refute.Goals as goal

pub returns-in_ok-marks-in-No-clause-refuted : goal.returns-in_ok-marks-in-No-clause-refuted
returns-in_ok-marks-in-No-clause-refuted c =
    let mode = c.args.graph.now.mode in
    let t = c.args.graph.now.events in
    let crash = crash_of c.args.initial.now c.args.crash.now in
    let w = c.in_ok-marks-in-No.field-0 in
    let word = c.in-No.word in
    let r : IsRefuted mode t crash word c.in-No.rank = subst (NamesWord mode t crash) c.in-No.is c.in_ok-list.ensures.word in
    let one = subst (λ ev. MatchOption c.last_to-last.result (IsNoneTo ev (set_of c.deref.result.now) word) (IsLastTo ev (set_of c.deref.result.now) word)) c.events.ensures.events c.last_to-last.ensures in
    let marks_is : c.deref.result.now ≡ w.marks.items = c.deref.ensures.value in
    let two = subst (λ (ms : List Bool). MatchOption c.last_to-last.result (IsNoneTo t (set_of ms) word) (IsLastTo t (set_of ms) word)) marks_is one in
    certified mode t crash w.marks.items w.targets.items w.lines.items c.in_ok-marks-in-No.ensures.least c.in_ok-marks-in-No.ensures.explained word c.in-No.rank r c.last_to-last.result two (omega arith)
