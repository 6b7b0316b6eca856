use Rattle.std.proofs.Common.{codes, ap}
use Rattle.std.proofs.lemmas.Result.{err_from_is_err_and}
use Rattle.strand_base.specs.declared.regions.TheConstants.{PERSISTENT_BASE, VOLATILE_BASE}
use Rattle.strand_base.proofs.AppendsFront.{front_before, puts_after}
use Rattle.strand_exec.specs.Memory.{Memory}
use Rattle.strand_report.specs.Numbered.{numbered_texts}
use Rattle.strand_report.specs.Words.{word_line}
use Rattle.strand_report.proofs.words.put_visible.Goals as goal

pub returns-in_err-put_words : goal.returns-in_err-put_words
returns-in_err-put_words c =
    let p = err_from_is_err_and c.from_residual.result c.from_residual.ensures.1 in
    let m = c.args.memory.now in
    rw p.1 (front_before (numbered_texts (word_line (codes "vis") VOLATILE_BASE) m.volatile) (numbered_texts (word_line (codes "vis") PERSISTENT_BASE) m.persistent) _ _
    (rw (c.deref.ensures.value, ap (λ (m : Memory). m.volatile) c.memory.view_is) at c.in_err-put_words.ensures))

pub returns : goal.returns
returns c =
    let m = c.args.memory.now in
    puts_after c.put_words-2.result (numbered_texts (word_line (codes "vis") VOLATILE_BASE) m.volatile) (numbered_texts (word_line (codes "vis") PERSISTENT_BASE) m.persistent) _ _ _
    (rw (c.deref.ensures.value, ap (λ (m : Memory). m.volatile) c.memory.view_is) at c.in_ok-put_words.ensures)
    (rw (c.deref-2.ensures.value, ap (λ (m : Memory). m.persistent) c.memory.view_is) at c.put_words-2.ensures)
