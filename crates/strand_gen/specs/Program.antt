-- The drawn program: its instructions, and the image of their words.
use Rattle.std.specs.Prelude.{ℕ, ◌*◌, ◌==◌, nat_lt, pos, negsuc, List, [], ◌∷◌, ◌++◌, map, replicate, if◌then◌else◌}
use Rattle.strand_isa.specs.declared.instr.Instr.{Instr}
use Rattle.strand_isa.specs.declared.instr.Instr.TheVariants.{Upper, Jal, Load, Store, Imm, PersistBarrier, NewStrand, JoinStrand}
use Rattle.strand_isa.specs.declared.ops.UpperOp.TheVariants.{Lui}
use Rattle.strand_isa.specs.declared.ops.LoadOp.TheVariants.{Ld}
use Rattle.strand_isa.specs.declared.ops.StoreOp.TheVariants.{Sd}
use Rattle.strand_isa.specs.declared.ops.ImmOp.TheVariants.{Addi}
use Rattle.strand_isa.specs.Word.{instr_word}
use Rattle.strand_image.specs.ImageSeen.{ImageSeen, image_seen}
use Rattle.strand_gen.specs.Draws.{Drawn, ◌>>=◌, give, draw, draw_list, initial_state}

-- sd x1, OFFSET(BASE) and ld x4, OFFSET(BASE), at one of so many words
abbrev pub store : ℕ → ℕ → Drawn Instr
store base words = do
  word ← draw words
  give (Store Sd base 1 (pos (8 * word)))

abbrev pub load : ℕ → ℕ → Drawn Instr
load base words = do
  word ← draw words
  give (Load Ld 4 base (pos (8 * word)))

-- joinstrand once in four times, else newstrand
abbrev pub strand_change : Drawn Instr
strand_change = do
  k ← draw 4
  give (if k == 0 then JoinStrand else NewStrand)

-- the instruction by a number below 10
unfoldable pub instruction_by : ℕ → Drawn Instr
instruction_by k =
    if nat_lt k 4 then store 2 64
    else (if k == 4 then give (Imm Addi 1 1 (pos 1))
    else (if k == 5 then load 2 64
    else (if k == 6 then store 3 16
    else (if k == 7 then load 3 16
    else (if k == 8 then give PersistBarrier
    else strand_change)))))

abbrev pub instruction : Drawn Instr
instruction = do
  k ← draw 10
  instruction_by k

-- a core's instructions: x2 and x3 get their bases, 63 are drawn, and jal x0, -252 goes back to the first of these
abbrev pub core_program : Drawn (List Instr)
core_program = do
  drawn ← draw_list 63 instruction
  give (Upper Lui 2 0x40000 ∷ Upper Lui 3 0x20000 ∷ (drawn ++ Jal 0 (negsuc 251) ∷ []))

abbrev pub program : Drawn (List Instr)
program = do
  first ← core_program
  second ← core_program
  give (first ++ second)

-- the words of a fresh state's program
unfoldable pub code_of : ℕ → List ℕ
code_of seed = map instr_word (program (initial_state seed)).0

-- the image of two cores, whose data is zeros
abbrev pub generated_image : ℕ → ImageSeen
generated_image seed = image_seen (0 ∷ 66 ∷ []) (code_of seed) (replicate 16 0) (replicate 64 0) []
