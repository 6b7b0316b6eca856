use Rattle.std.proofs.Common.{◌≡◌, ◌+◌, ◌∙◌, drop, refl, sym, ap, arith, []}
use Rattle.std.specs.Prelude.{slice_range}
use Rattle.std.proofs.lemmas.List.{drop_all}
use Rattle.std.proofs.lemmas.Result.{err_from_is_err_and}
use Rattle.strand_base.specs.Text.{lines_of}
use Rattle.strand_asm.specs.Layout.{IsAtMost, laid, layout_of, empty_layout, over_lines}
use Rattle.strand_asm.proofs.EachLine.{goes_on, stops, no_line}
use Rattle.strand_asm.proofs.laying.layout_of.Goals as goal

empty_is_small : IsAtMost 0 empty_layout
unfolding empty_layout
empty_is_small = record { cores_bound = omega arith; code_bound = omega arith; volatile_bound = omega arith; persistent_bound = omega arith }

pub loop-span-init : goal.loop-span-init
unfolding layout_of
loop-span-init c = rw c.nothing-layout.ensures (omega arith, omega arith, empty_is_small, refl)

pub loop-span-preserved : goal.loop-span-preserved
loop-span-preserved c =
    let text = c.args.text.now in (
      omega (arith, c.in-Some.ensures.place),
      omega (arith, c.in-Some.ensures.place),
      c.in_ok-lay_text.ensures.room,
      goes_on laid (c.loop-span.lines + 1) c.loop-span.layout c.lay_text.new.layout (slice_range text c.in-Some.span.start c.in-Some.span.end) (lines_of (drop c.loop-span.from text)) (lines_of (drop c.in-Some.span.next text)) _ c.in-Some.ensures.line c.in_ok-lay_text.ensures.gives c.loop-span.invariant.3,
    )

pub returns-in_err-lay_text : goal.returns-in_err-lay_text
returns-in_err-lay_text c =
    let text = c.args.text.now in
    let p = err_from_is_err_and c.from_residual.result c.from_residual.ensures.1 in
    rw (p.1, p.2) (stops laid (c.loop-span.lines + 1) c.loop-span.layout c.in_err-lay_text.field-0.0 (slice_range text c.in-Some.span.start c.in-Some.span.end) (lines_of (drop c.loop-span.from text)) (lines_of (drop c.in-Some.span.next text)) _ c.in-Some.ensures.line c.in_err-lay_text.ensures.gives c.loop-span.invariant.3)

pub returns : goal.returns
returns c =
    let at_end : drop c.loop-span.from c.args.text.now ≡ [] = drop_all c.loop-span.from c.args.text.now (omega (arith, c.in_default.ensures.none.0 refl)) in
    sym c.loop-span.invariant.3 ∙ ap (λ r. over_lines laid (c.loop-span.lines + 1) c.loop-span.layout (lines_of r)) at_end ∙ no_line laid (c.loop-span.lines + 1) c.loop-span.layout
