use Rattle.std.proofs.Common.{◌≡◌, ◌-◌, ◌++◌, suc, sym, ap, ◌∙◌, arith, subst}
use Rattle.std.specs.Prelude.{slice_index, reverse}
use Rattle.std.proofs.lemmas.List.{get_or_read}
use Rattle.strand_path.proofs.LongestPath.WayBack.{IsBack, back_first, back_within, back_step, back_end}
use Rattle.strand_path.proofs.walking.walk.Goals as goal

pub loop-x-init : goal.loop-x-init
loop-x-init c = λ mode t a. back_first mode t c.args.traces.now.firsts.items c.args.traces.now.vias.items c.args.p c.args.q c.new-back.result.items c.new-back.ensures.items c.requires.first c.requires.via

pub index-requires : goal.index-requires
index-requires c =
    let k = c.requires.linked in
    let v = c.args.traces.now in
    let h = back_within k.0 k.1 v.levels.items v.firsts.items v.vias.items k.2 c.args.p c.args.q c.loop-x.x c.loop-x.back.items (c.loop-x.invariant k.0 k.1 k.2) c.loop-x-test.true in
    omega (arith, h.0, v.vias.ok.0)

pub overflow_sub-x : goal.overflow_sub-x
overflow_sub-x c =
    let k = c.requires.linked in
    let v = c.args.traces.now in
    let h = back_within k.0 k.1 v.levels.items v.firsts.items v.vias.items k.2 c.args.p c.args.q c.loop-x.x c.loop-x.back.items (c.loop-x.invariant k.0 k.1 k.2) c.loop-x-test.true in
    omega (arith, h.1, get_or_read v.vias.items c.loop-x.x c.index.result.now h.0 c.index.ensures 0)

pub loop-x-smaller : goal.loop-x-smaller
loop-x-smaller c =
    let k = c.requires.linked in
    let v = c.args.traces.now in
    let h = back_within k.0 k.1 v.levels.items v.firsts.items v.vias.items k.2 c.args.p c.args.q c.loop-x.x c.loop-x.back.items (c.loop-x.invariant k.0 k.1 k.2) c.loop-x-test.true in
    let read : c.index.result.now ≡ slice_index v.vias.items c.loop-x.x = get_or_read v.vias.items c.loop-x.x c.index.result.now h.0 c.index.ensures 0 in
    let is : slice_index v.vias.items c.loop-x.x ≡ suc (c.index.result.now - 1) = omega (arith, read, h.1) in
    (back_step k.0 k.1 v.levels.items v.firsts.items v.vias.items k.2 c.args.p c.args.q c.loop-x.x c.loop-x.back.items (c.loop-x.invariant k.0 k.1 k.2) c.loop-x-test.true (c.index.result.now - 1) is).0

pub loop-x-preserved : goal.loop-x-preserved
loop-x-preserved c = λ mode t a.
    let v = c.args.traces.now in
    let h = back_within mode t v.levels.items v.firsts.items v.vias.items a c.args.p c.args.q c.loop-x.x c.loop-x.back.items (c.loop-x.invariant mode t a) c.loop-x-test.true in
    let read : c.index.result.now ≡ slice_index v.vias.items c.loop-x.x = get_or_read v.vias.items c.loop-x.x c.index.result.now h.0 c.index.ensures 0 in
    let is : slice_index v.vias.items c.loop-x.x ≡ suc (c.index.result.now - 1) = omega (arith, read, h.1) in
    subst (IsBack mode t v.firsts.items v.vias.items c.args.p c.args.q (c.index.result.now - 1)) (sym c.in_ok-push.ensures.items)
    (back_step mode t v.levels.items v.firsts.items v.vias.items a c.args.p c.args.q c.loop-x.x c.loop-x.back.items (c.loop-x.invariant mode t a) c.loop-x-test.true (c.index.result.now - 1) is).1

pub returns : goal.returns
returns c = λ mode t a.
    let v = c.args.traces.now in
    back_end mode t v.levels.items v.firsts.items v.vias.items a c.args.p c.args.q c.loop-x.x c.loop-x.back.items (c.loop-x.invariant mode t a) c.requires.less c.loop-x-test.false c.args.route.now c.put_back.new.route (c.in_ok-put_back.ensures ∙ ap (λ xs. c.args.route.now ++ reverse xs) c.deref.ensures.value)
