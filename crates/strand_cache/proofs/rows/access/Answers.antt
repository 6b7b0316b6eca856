-- The parts of an access, put together.
use Rattle.std.proofs.Common.{◌<◌, [], ap, ◌∙◌, subst, arith}
use Rattle.std.specs.Prelude.{length}
use Rattle.std.proofs.lemmas.List.{get_or_default, length-set}
use Rattle.strand_exec.specs.Memory.{extents_of}
use Rattle.strand_cache.specs.Coherence.{Among}
use Rattle.strand_cache.proofs.Memory.Words.{low_line}
use Rattle.strand_cache.proofs.Memory.Coherence.{put_back_extents}
use Rattle.strand_cache.proofs.Memory.SetAccess.{all_hit, all_lines, all_accessed}
use Rattle.strand_cache.proofs.rows.access.Goals as goal

pub settle-requires : goal.settle-requires
settle-requires c = low_line c.args.backing.now c.args.word c.apart.ensures c.requires.word

pub fetched-requires : goal.fetched-requires
fetched-requires c = low_line c.args.backing.now c.args.word c.apart.ensures c.requires.word

pub put_own-requires-clause-low : goal.put_own-requires-clause-low
put_own-requires-clause-low c h a =
    let within : c.args.core < length c.settle.new.rows = omega arith in
    let row = get_or_default c.settle.new.rows c.args.core c.index-rows-core.result [] within in
    c.requires.bounded.low c.args.core h (subst (Among h) (row ∙ c.settle.ensures.own) a)

pub returns : goal.returns
returns c =
    let within : c.args.core < length c.settle.new.rows = omega arith in
    let low = low_line c.args.backing.now c.args.word c.apart.ensures c.requires.word in
    record {
      hit = c.is_some.ensures ∙ all_hit c.args.rows.now c.settle.new.rows c.index-rows-core.result c.args.backing.now c.settle.new.backing c.put_own.new.backing c.args.core c.args.word c.args.ways c.args.change
          c.find-found.result c.fetched.result c.after-held.result c.put_own.new.row within c.settle.ensures.own c.find-found.ensures c.fetched.ensures c.after-held.ensures c.put_own.ensures.row c.put_own.ensures.memory;
      lines = λ sets set of_set. all_lines c.args.rows.now c.settle.new.rows c.index-rows-core.result c.args.backing.now c.settle.new.backing c.put_own.new.backing c.args.core c.args.word c.args.ways c.args.change
          c.find-found.result c.fetched.result c.after-held.result c.put_own.new.row within c.settle.ensures.own c.find-found.ensures c.fetched.ensures c.after-held.ensures c.put_own.ensures.row c.put_own.ensures.memory
          sets set of_set (λ n. c.settle.ensures.loads (c.stores.ensures ∙ n)) (λ y. c.settle.ensures.takes (c.stores.ensures ∙ y));
      extents = ap extents_of c.put_own.ensures.memory ∙ put_back_extents _ c.settle.new.backing ∙ c.settle.ensures.extents;
      rows = length-set c.settle.new.rows c.args.core c.put_own.new.row ∙ c.settle.auto.rows;
      accessed = λ sets set flat of_set whole. all_accessed c.args.rows.now c.settle.new.rows c.index-rows-core.result c.args.backing.now c.settle.new.backing c.put_own.new.backing c.args.core c.args.word c.args.ways c.args.change
          c.find-found.result c.fetched.result c.after-held.result c.put_own.new.row within c.settle.ensures.own c.find-found.ensures c.fetched.ensures c.after-held.ensures c.put_own.ensures.row c.put_own.ensures.memory
          sets set flat of_set c.requires.some c.requires.word low c.settle.ensures.extents c.apart-2.ensures
          (c.settle.ensures.coheres sets c.args.ways set flat whole) c.settle.ensures.words c.settle.ensures.free (λ y. c.settle.ensures.absent (c.stores.ensures ∙ y));
    }
