use Rattle.std.proofs.Common.{◌++◌}
use lib.Chars.{codes}
use Rattle.std.proofs.lemmas.Result.{err_from_is_err_and}
use Rattle.strand_base.proofs.AppendsFront.{front_before, puts_after}
use Rattle.strand_image.specs.declared.symbol.Region.TheVariants.{Volatile}
use Rattle.strand_asm.specs.Listing.{data_lines, lines_text, names_at}
use Rattle.strand_asm.proofs.listing.put_sections.Goals as goal

pub returns-in_err-put_section : goal.returns-in_err-put_section
returns-in_err-put_section c =
    let p = err_from_is_err_and c.from_residual.result c.from_residual.ensures.1 in
    rw (p.1, ← c.symbols-symbols.ensures.symbols, ← c.volatile.ensures.volatile) (front_before (codes ".volatile\n" ++ lines_text (data_lines (names_at c.symbols-symbols.result.now Volatile) c.volatile.result.now)) _ _ _ c.in_err-put_section.ensures)

pub returns : goal.returns
returns c =
    rw (← c.symbols-symbols.ensures.symbols, ← c.volatile.ensures.volatile, ← c.persistent.ensures.persistent)
    (puts_after c.put_section-2.result (codes ".volatile\n" ++ lines_text (data_lines (names_at c.symbols-symbols.result.now Volatile) c.volatile.result.now)) _ _ _ _ c.in_ok-put_section.ensures c.put_section-2.ensures)
