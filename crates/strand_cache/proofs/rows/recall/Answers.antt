-- The changed copy is written back, and the others' copies are cleaned.
use Rattle.std.proofs.Common.{refl, sym, ap, ◌∙◌, subst}
use Rattle.std.specs.Prelude.{map}
use Rattle.strand_exec.specs.Memory.{extents_of, word_in}
use Rattle.strand_cache.specs.Copies.{cleaned, is_changed, row_of}
use Rattle.strand_cache.specs.Coherence.{Coheres}
use Rattle.strand_cache.proofs.Memory.Words.{line_other}
use Rattle.strand_cache.proofs.Memory.RowMembers.{find_among}
use Rattle.strand_cache.proofs.Memory.Coherence.{recalled}
use Rattle.strand_cache.proofs.Memory.OtherCores.{everywhere, free_elsewhere, same_lines, cleaned_free}
use Rattle.strand_cache.proofs.rows.recall.Goals as goal

pub returns-in-None-clause-free : goal.returns-in-None-clause-free
returns-in-None-clause-free c = free_elsewhere c.args.rows.now c.args.core c.args.line c.in-None.ensures.absent

pub returns-in-Some-clause-lines : goal.returns-in-Some-clause-lines
returns-in-Some-clause-lines c =
    same_lines c.args.rows.now c.clean_elsewhere.new.rows c.args.core c.args.line c.clean_elsewhere.ensures.own
    (everywhere (map (cleaned c.args.line)) c.args.rows.now c.clean_elsewhere.new.rows c.args.core refl c.clean_elsewhere.auto.rows c.clean_elsewhere.ensures.cleaned)

pub returns-in-Some-clause-words : goal.returns-in-Some-clause-words
returns-in-Some-clause-words c word is ne = ap (λ m. word_in m word) c.put_line.ensures.memory ∙ line_other c.args.line c.in-Some.held.words c.args.backing.now word is ne

pub returns-in-Some-clause-free : goal.returns-in-Some-clause-free
returns-in-Some-clause-free c =
    cleaned_free c.args.rows.now c.clean_elsewhere.new.rows c.args.core c.args.line
    (everywhere (map (cleaned c.args.line)) c.args.rows.now c.clean_elsewhere.new.rows c.args.core refl c.clean_elsewhere.auto.rows c.clean_elsewhere.ensures.cleaned)

pub returns-in-Some-clause-coheres : goal.returns-in-Some-clause-coheres
returns-in-Some-clause-coheres c sets ways set flat whole =
    let found = c.in-Some.ensures.found in
    let among = find_among (is_changed c.args.line) (row_of c.args.rows.now found.0) c.in-Some.held found.3 in
    let clean = everywhere (map (cleaned c.args.line)) c.args.rows.now c.clean_elsewhere.new.rows c.args.core refl c.clean_elsewhere.auto.rows c.clean_elsewhere.ensures.cleaned in
    subst (λ m. Coheres (extents_of c.args.backing.now) sets ways set c.clean_elsewhere.new.rows m flat) (sym c.put_line.ensures.memory)
    (recalled (extents_of c.args.backing.now) sets ways set c.args.rows.now c.clean_elsewhere.new.rows c.args.backing.now flat c.args.core c.args.line whole refl c.apart.ensures c.clean_elsewhere.ensures.own clean found.0 c.in-Some.held among.0 among.1)
