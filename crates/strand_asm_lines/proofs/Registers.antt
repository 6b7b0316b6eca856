-- Serves clause registers of read_line: the registers of a line that is read are x0 to x31.
use Rattle.std.proofs.Common.{◌≡◌, ℕ, ◌<◌, ℤ, Bool, true, false, cond, List, [], ◌∷◌, drop, Option, Some, None, Result, Ok, Err, refl, subst, arith}
use Rattle.std.specs.Prelude.{slice_index}
use Rattle.std.specs.Option.{option_map, option_and_then, ok_or}
use Rattle.std.specs.Str.{bytes_eq}
use Rattle.std.proofs.lemmas.Bool.Decides.{nat_tests}
use lib.Chars.{codes}
use Rattle.strand_base.specs.Text.{words_of}
use Rattle.strand_asm_lines.specs.Bytes.{lone, operand_texts, operand_at}
use Rattle.strand_asm_lines.specs.Token.{register_by_letter, named, numbered_register, unless_named, register_of, number_of, name_of, short_number, bracketed, offset_of}
use Rattle.strand_asm_lines.specs.Table.{form_of, due_count}
use Rattle.strand_asm_lines.specs.Line.{◌>>=◌, in_word, unless_number, target_of, memory_of, operand_of, operands_counted, head_of, space_of, instruction_of, directive_of, body_by, HasOperandRegister, HasRegistersOf}
use Rattle.strand_asm_lines.specs.declared.fault.LineKind.{LineKind}
use Rattle.strand_asm_lines.specs.declared.fault.LineKind.TheVariants.{BadToken, BadNumber, BadRegister, UnknownName}
use Rattle.strand_asm_lines.specs.declared.mnemonic.Mnemonic.{Mnemonic}
use Rattle.strand_asm_lines.specs.declared.table.Due.{Due}
use Rattle.strand_asm_lines.specs.declared.table.Due.TheVariants as due
use Rattle.strand_asm_lines.specs.declared.table.Form.{Form}
use Rattle.strand_asm_lines.specs.declared.line.Operand.{Operand}
use Rattle.strand_asm_lines.specs.declared.line.Operand.TheVariants as operands
use Rattle.strand_asm_lines.specs.declared.line.Body.{Body}
use Rattle.strand_asm_lines.specs.declared.line.Body.TheVariants as bodies
use Rattle.strand_asm_lines.specs.declared.reading.Head.{Head}
use Rattle.strand_asm_lines.specs.declared.reading.Head.TheVariants as heads

-- each number that may come is below 32
abbrev Below : Option ℕ → Type 0
Below x = (n : ℕ) → x ≡ Some n → n < 32

below_some : (k : ℕ) → k < 32 → Below (Some k)
below_some k lt n e = let same : k ≡ n = cc in omega arith

below_none : Below None
below_none n e = absurd cc

below_if : (b : Bool) (x y : Option ℕ) → Below x → Below y → Below (cond b x y)
below_if true x y p q = p
below_if false x y p q = q

numbered_below : (letter n : ℕ) → Below (register_by_letter letter n)
numbered_below letter n r e = grind (arith, nat_tests)

named_below : (w : List ℕ) → Below (named w)
named_below w =
    below_if (bytes_eq w (codes "zero")) (Some 0) _ (below_some 0 (omega arith))
    (below_if (bytes_eq w (codes "ra")) (Some 1) _ (below_some 1 (omega arith))
    (below_if (bytes_eq w (codes "sp")) (Some 2) _ (below_some 2 (omega arith))
    (below_if (bytes_eq w (codes "gp")) (Some 3) _ (below_some 3 (omega arith))
    (below_if (bytes_eq w (codes "tp")) (Some 4) _ (below_some 4 (omega arith))
    (below_if (bytes_eq w (codes "fp")) (Some 8) None (below_some 8 (omega arith)) below_none)))))

below_then : {A : Type 0} (x : Option A) (f : A → Option ℕ) → ((a : A) → Below (f a)) → Below (option_and_then f x)
below_then None f p = below_none
below_then (Some a) f p = p a

numbered_register_below : (w : List ℕ) → Below (numbered_register w)
unfolding numbered_register
numbered_register_below w = below_then (short_number (drop 1 w)) (λ n. register_by_letter (slice_index w 0) n) (λ n. numbered_below (slice_index w 0) n)

unless_named_below : (x : Option ℕ) (w : List ℕ) → Below x → Below (unless_named x w)
unless_named_below None w p = numbered_register_below w
unless_named_below (Some n) w p = p

register_below : (w : List ℕ) → Below (register_of w)
unfolding register_of
register_below w = unless_named_below (named w) w (named_below w)

-- what a step that is Ok did
did : {A B : Type 0} (r : Result A LineKind) (f : A → Result B LineKind) (x : B) → (r >>= f) ≡ Ok x → (y : A) × (r ≡ Ok y) × (f y ≡ Ok x)
did (Ok y) f x e = (y, refl, e)
did (Err d) f x e = absurd cc

was_some : {A : Type 0} (x : Option A) (kind : LineKind) (a : A) → ok_or x kind ≡ Ok a → x ≡ Some a
was_some None kind a e = absurd cc
was_some (Some b) kind a e = cc

-- each operand that may come has its register
abbrev Places : Option Operand → Type 0
Places x = (o : Operand) → x ≡ Some o → HasOperandRegister o

places_some : (o : Operand) → HasOperandRegister o → Places (Some o)
places_some o h p e = let same : o ≡ p = cc in subst (λ (q : Operand). HasOperandRegister q) same h

places_none : Places None
places_none p e = absurd cc

places_then : {A : Type 0} (x : Option A) (f : A → Option Operand) → ((a : A) → Places (f a)) → Places (option_and_then f x)
places_then None f p = places_none
places_then (Some a) f p = p a

places_registers : (x : Option ℕ) → Below x → Places (option_map (λ n. operands.Reg n) x)
places_registers None p = places_none
places_registers (Some n) p = places_some (operands.Reg n) (p n refl)

places_numbers : (x : Option ℤ) → Places (option_map (λ n. operands.Num n) x)
places_numbers None = places_none
places_numbers (Some n) = places_some (operands.Num n) tt

places_names : (x : Option (List ℕ)) → Places (option_map (λ name. operands.Label name) x)
places_names None = places_none
places_names (Some name) = places_some (operands.Label name) tt

places_targets : (x : Option ℤ) (w : List ℕ) → Places (unless_number x w)
places_targets None w = places_names (name_of w)
places_targets (Some n) w = places_some (operands.Num n) tt

memory_has : (text : List ℕ) (o : Operand) → memory_of text ≡ Ok o → HasOperandRegister o
unfolding memory_of
memory_has text o e =
    let word = did (ok_or (lone (words_of text)) BadToken) _ o e in
    let parts = did (ok_or (bracketed word.0) BadToken) _ o word.2 in
    let offset = did (ok_or (offset_of parts.0.0) BadNumber) _ o parts.2 in
    let base = did (ok_or (register_of parts.0.1) BadRegister) _ o offset.2 in
    let lt : base.0 < 32 = register_below parts.0.1 base.0 (was_some (register_of parts.0.1) BadRegister base.0 base.1) in
    let made : Ok (operands.Mem offset.0 base.0) ≡ Ok o = base.2 in
    let same : operands.Mem offset.0 base.0 ≡ o = cc in
    subst (λ (q : Operand). HasOperandRegister q) same lt

operand_has : (d : Due) (text : List ℕ) (o : Operand) → operand_of d text ≡ Ok o → HasOperandRegister o
operand_has due.Nothing text o e = let same : operands.Absent ≡ o = cc in subst (λ (q : Operand). HasOperandRegister q) same tt
operand_has due.Register text o e = places_registers (in_word register_of text) (below_then (lone (words_of text)) register_of register_below) o (was_some _ BadRegister o e)
operand_has due.Number text o e = places_numbers (in_word number_of text) o (was_some _ BadNumber o e)
operand_has due.Target text o e = places_then (lone (words_of text)) target_of (λ w. places_targets (number_of w) w) o (was_some _ BadNumber o e)
operand_has due.Label text o e = places_names (in_word name_of text) o (was_some _ BadToken o e)
operand_has due.Memory text o e = memory_has text o e

has_same : (a b : Body) → (let r : Result Body LineKind = Ok a in r ≡ Ok b) → HasRegistersOf a → HasRegistersOf b
has_same a b e h = let same : a ≡ b = cc in subst (λ (q : Body). HasRegistersOf q) same h

instruction_has : (op : Mnemonic) (f : Form) (rest : List ℕ) (body : Body) → instruction_of op f rest ≡ Ok body → HasRegistersOf body
unfolding instruction_of
instruction_has op f rest body e =
    let enough = did (operands_counted (due_count f) (operand_texts rest)) _ body e in
    let first = did (operand_of f.first (operand_at 0 rest)) _ body enough.2 in
    let second = did (operand_of f.second (operand_at 1 rest)) _ body first.2 in
    let third = did (operand_of f.third (operand_at 2 rest)) _ body second.2 in
    has_same _ body third.2 (operand_has f.first _ first.0 first.1, operand_has f.second _ second.0 second.1, operand_has f.third _ third.0 third.1)

directive_has : (head : Head) (rest : List ℕ) (body : Body) → directive_of head rest ≡ Ok body → HasRegistersOf body
unfolding directive_of
directive_has (heads.Section section) rest body e =
    let enough = did (operands_counted 0 (operand_texts rest)) _ body e in
    has_same _ body enough.2 tt
directive_has heads.Entry rest body e =
    let enough = did (operands_counted 1 (operand_texts rest)) _ body e in
    let target = did (operand_of due.Target (operand_at 0 rest)) _ body enough.2 in
    has_same _ body target.2 (operand_has due.Target _ target.0 target.1)
directive_has heads.Word rest body e =
    let enough = did (operands_counted 1 (operand_texts rest)) _ body e in
    let number = did (ok_or (in_word number_of (operand_at 0 rest)) BadNumber) _ body enough.2 in
    has_same _ body number.2 tt
directive_has heads.Space rest body e =
    let enough = did (operands_counted 1 (operand_texts rest)) _ body e in
    let number = did (ok_or (in_word space_of (operand_at 0 rest)) BadNumber) _ body enough.2 in
    has_same _ body number.2 tt
directive_has (heads.Code op) rest body e = instruction_has op (form_of op) rest body e

pub body_has : (word rest : List ℕ) (body : Body) → body_by word rest ≡ Ok body → HasRegistersOf body
unfolding body_by
body_has [] rest body e = has_same bodies.Empty body e tt
body_has (b ∷ bs) rest body e =
    let head = did (ok_or (head_of (b ∷ bs)) UnknownName) _ body e in
    directive_has head.0 rest body head.2
