-- Serves generated_image: how many instructions the program has, so that there is an image of it.
use Rattle.std.proofs.Common.{◌≡◌, ℕ, zero, suc, [], ◌∷◌, List, Ok, length, replicate, refl, arith, ap}
use Rattle.std.proofs.lemmas.List.{length-append, length-map}
use Rattle.strand_isa.specs.Word.{instr_word}
use Rattle.strand_isa.specs.declared.instr.Instr.TheVariants.{Jal}
use Rattle.std.specs.Prelude.{negsuc}
use Rattle.strand_image.specs.ImageSeen.{image_seen}
use Rattle.strand_image.specs.Image.{checked_image, within_limits, kept_image, entries_exist, symbols_stand}
use Rattle.strand_gen.specs.Draws.{Drawn, draw_list, initial_state}
use Rattle.strand_gen.specs.Program.{instruction, core_program, program, code_of, generated_image}

length-draw_list : {A : Type 0} (n : ℕ) (one : Drawn A) (x : ℕ) → length (draw_list n one x).0 ≡ n
unfolding draw_list
length-draw_list zero one x = refl
length-draw_list (suc n) one x = ap suc (length-draw_list n one (one x).1)

core_length : (x : ℕ) → length (core_program x).0 ≡ 66
core_length x = omega (arith, length-append (draw_list 63 instruction x).0 (Jal 0 (negsuc 251) ∷ []), length-draw_list 63 instruction x)

code_length : (seed : ℕ) → length (code_of seed) ≡ 132
unfolding code_of
code_length seed =
    let x = initial_state seed in
    let second = (core_program x).1 in
    omega (arith, length-map (program x).0 instr_word, length-append (core_program x).0 (core_program second).0, core_length x, core_length second)

drawn_made : (seed : ℕ) → checked_image (generated_image seed) ≡ Ok (generated_image seed)
unfolding checked_image within_limits kept_image entries_exist symbols_stand
drawn_made seed = rw (code_length seed) refl

pub image_made : (seed : ℕ) (entries code volatile persistent : List ℕ) → entries ≡ 0 ∷ 66 ∷ [] → code ≡ code_of seed → volatile ≡ replicate 16 0 → persistent ≡ replicate 64 0
    → checked_image (image_seen entries code volatile persistent []) ≡ Ok (generated_image seed)
image_made seed entries code volatile persistent e c v p = rw (e, c, v, p) (drawn_made seed)
