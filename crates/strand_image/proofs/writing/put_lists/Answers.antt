use Rattle.std.proofs.lemmas.Result.{err_from_is_err_and}
use Rattle.strand_base.proofs.AppendsFront.{front_before, front_after, puts_after}
use Rattle.strand_image.proofs.writing.put_lists.Goals as goal

pub returns-in_err-put_u32s : goal.returns-in_err-put_u32s
returns-in_err-put_u32s c =
    let p = err_from_is_err_and c.from_residual.result c.from_residual.ensures.1 in
    rw (p.1, ← c.entries.ensures.entries) (front_before _ _ _ _ c.in_err-put_u32s.ensures)

pub returns-in_err-put_u32s-2 : goal.returns-in_err-put_u32s-2
returns-in_err-put_u32s-2 c =
    let p = err_from_is_err_and c.from_residual-in_err-put_u32s-2.result c.from_residual-in_err-put_u32s-2.ensures.1 in
    rw (p.1, ← c.entries.ensures.entries, ← c.code.ensures.code)
    (front_after _ _ _ _ _ c.in_ok-put_u32s.ensures (front_before _ _ _ _ c.in_err-put_u32s-2.ensures))

pub returns-in_err-put_u64s : goal.returns-in_err-put_u64s
returns-in_err-put_u64s c =
    let p = err_from_is_err_and c.from_residual-in_err-put_u64s.result c.from_residual-in_err-put_u64s.ensures.1 in
    rw (p.1, ← c.entries.ensures.entries, ← c.code.ensures.code, ← c.volatile.ensures.volatile)
    (front_after _ _ _ _ _ c.in_ok-put_u32s.ensures (front_after _ _ _ _ _ c.in_ok-put_u32s-2.ensures (front_before _ _ _ _ c.in_err-put_u64s.ensures)))

pub returns-in_err-put_u64s-2 : goal.returns-in_err-put_u64s-2
returns-in_err-put_u64s-2 c =
    let p = err_from_is_err_and c.from_residual-in_err-put_u64s-2.result c.from_residual-in_err-put_u64s-2.ensures.1 in
    rw (p.1, ← c.entries.ensures.entries, ← c.code.ensures.code, ← c.volatile.ensures.volatile, ← c.persistent.ensures.persistent)
    (front_after _ _ _ _ _ c.in_ok-put_u32s.ensures (front_after _ _ _ _ _ c.in_ok-put_u32s-2.ensures (front_after _ _ _ _ _ c.in_ok-put_u64s.ensures (front_before _ _ _ _ c.in_err-put_u64s-2.ensures))))

pub returns : goal.returns
returns c =
    rw (← c.entries.ensures.entries, ← c.code.ensures.code, ← c.volatile.ensures.volatile, ← c.persistent.ensures.persistent, ← c.symbols.ensures.symbols)
    (puts_after c.put_symbols.result _ _ _ _ _ c.in_ok-put_u32s.ensures
    (puts_after c.put_symbols.result _ _ _ _ _ c.in_ok-put_u32s-2.ensures
    (puts_after c.put_symbols.result _ _ _ _ _ c.in_ok-put_u64s.ensures
    (puts_after c.put_symbols.result _ _ _ _ _ c.in_ok-put_u64s-2.ensures c.put_symbols.ensures))))
