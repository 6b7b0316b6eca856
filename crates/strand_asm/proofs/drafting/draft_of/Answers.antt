use Rattle.std.proofs.Common.{◌≡◌, ◌+◌, ◌∙◌, drop, refl, sym, ap, arith, []}
use Rattle.std.specs.Prelude.{slice_range}
use Rattle.std.proofs.lemmas.List.{drop_all}
use Rattle.std.proofs.lemmas.Result.{err_from_is_err_and}
use Rattle.strand_base.specs.Text.{lines_of}
use Rattle.strand_asm.specs.Layout.{over_lines}
use Rattle.strand_asm.specs.Draft.{draft_of, drafted}
use Rattle.strand_asm.proofs.EachLine.{goes_on, stops, no_line}
use Rattle.strand_asm.proofs.drafting.draft_of.Goals as goal

pub loop-span-init : goal.loop-span-init
unfolding draft_of
loop-span-init c = rw c.blank-draft.ensures (omega arith, omega arith, refl)

pub loop-span-preserved : goal.loop-span-preserved
loop-span-preserved c =
    let text = c.args.text.now in (
      omega (arith, c.in-Some.ensures.place),
      omega (arith, c.in-Some.ensures.place),
      goes_on (drafted c.args.layout.now) (c.loop-span.lines + 1) c.loop-span.draft c.draft_text.new.draft (slice_range text c.in-Some.span.start c.in-Some.span.end) (lines_of (drop c.loop-span.from text)) (lines_of (drop c.in-Some.span.next text)) _ c.in-Some.ensures.line c.in_ok-draft_text.ensures c.loop-span.invariant.2,
    )

pub returns-in_err-draft_text : goal.returns-in_err-draft_text
returns-in_err-draft_text c =
    let text = c.args.text.now in
    let p = err_from_is_err_and c.from_residual.result c.from_residual.ensures.1 in
    rw (p.1, p.2) (stops (drafted c.args.layout.now) (c.loop-span.lines + 1) c.loop-span.draft c.in_err-draft_text.field-0.0 (slice_range text c.in-Some.span.start c.in-Some.span.end) (lines_of (drop c.loop-span.from text)) (lines_of (drop c.in-Some.span.next text)) _ c.in-Some.ensures.line c.in_err-draft_text.ensures c.loop-span.invariant.2)

pub returns : goal.returns
returns c =
    let at_end : drop c.loop-span.from c.args.text.now ≡ [] = drop_all c.loop-span.from c.args.text.now (omega (arith, c.in_default.ensures.none.0 refl)) in
    sym c.loop-span.invariant.2 ∙ ap (λ r. over_lines (drafted c.args.layout.now) (c.loop-span.lines + 1) c.loop-span.draft (lines_of r)) at_end ∙ no_line (drafted c.args.layout.now) (c.loop-span.lines + 1) c.loop-span.draft
