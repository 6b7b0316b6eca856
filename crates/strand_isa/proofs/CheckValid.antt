-- Serves clause valid of Instr::check: no field is at fault exactly where each is in its range.
use Rattle.std.proofs.Common.{◌≡◌, ◌↔◌, ℕ, ◌<◌, ℤ, pos, negsuc, Option, Some, None, refl, arith}
use Rattle.std.proofs.lemmas.Bool.Decides.{nat_tests}
use Rattle.strand_isa.specs.Word.{IsEvenWithin, IsValid, IsInRange}
use Rattle.strand_isa.specs.Ops.{amount_bound}
use Rattle.strand_isa.specs.Faults.{fault_unless_below, even_range_fault, fault_of, first_of, range_fault}
use Rattle.strand_isa.specs.declared.fault.Field.{Field}
use Rattle.strand_isa.specs.declared.fault.Field.TheVariants.{Rd, Rs1, Rs2, Imm as ImmField, Offset, Amount, Bits}
use Rattle.strand_isa.specs.declared.fault.FieldFault.{FieldFault}
use Rattle.strand_isa.specs.declared.instr.Instr.{Instr}
use Rattle.strand_isa.specs.declared.instr.Instr.TheVariants.{Upper, Jal, Jalr, Branch, Load, Store, Imm, Shift, Reg, Fence, Ecall, Ebreak, PersistBarrier, NewStrand, JoinStrand}

below-is : (field : Field) (bound n : ℕ) → (fault_unless_below field bound n ≡ None) ↔ (n < bound)
below-is field bound n = grind (arith, nat_tests)

range_fault-is : (field : Field) (h : ℕ) (z : ℤ) → (range_fault field h z ≡ None) ↔ IsInRange h z
range_fault-is field h (pos n) = grind (arith, nat_tests)
range_fault-is field h (negsuc n) = grind (arith, nat_tests)

even-is : (field : Field) (h : ℕ) (z : ℤ) → (even_range_fault field h z ≡ None) ↔ IsEvenWithin h z
even-is field h (pos n) = grind (arith, nat_tests)
even-is field h (negsuc n) = grind (arith, nat_tests)

both : (a b : Option FieldFault) → first_of a b ≡ None → (a ≡ None) × (b ≡ None)
both (Some f) b e = absurd cc
both None b e = (refl, e)

two : (a b : Option FieldFault) (P Q : Type 0) → (a ≡ None) ↔ P → (b ≡ None) ↔ Q → (first_of a b ≡ None) ↔ (P × Q)
two a b P Q p q =
    (λ e. let k = both a b e in (p.0 k.0, q.0 k.1), λ v. let e = p.1 v.0 in rw e (q.1 v.1))

three : (a b c : Option FieldFault) (P Q R : Type 0) → (a ≡ None) ↔ P → (b ≡ None) ↔ Q → (c ≡ None) ↔ R → (first_of (first_of a b) c ≡ None) ↔ (P × Q × R)
three a b c P Q R p q r = (
  λ e. let k = both (first_of a b) c e in let l = both a b k.0 in (p.0 l.0, q.0 l.1, r.0 k.1),
  λ v. let e = p.1 v.0 in let f = q.1 v.1 in rw (e, f) (r.1 v.2),
)

pub valid_is : (i : Instr) → (fault_of i ≡ None) ↔ IsValid i
unfolding fault_of
valid_is (Upper op rd imm) = two _ _ _ _ (below-is Rd 32 rd) (below-is ImmField 1048576 imm)
valid_is (Jal rd offset) = two _ _ _ _ (below-is Rd 32 rd) (even-is Offset 1048576 offset)
valid_is (Jalr rd rs1 imm) =
    three _ _ _ _ _ _ (below-is Rd 32 rd) (below-is Rs1 32 rs1) (range_fault-is ImmField 2048 imm)
valid_is (Branch op rs1 rs2 offset) =
    three _ _ _ _ _ _ (below-is Rs1 32 rs1) (below-is Rs2 32 rs2) (even-is Offset 4096 offset)
valid_is (Load op rd rs1 imm) =
    three _ _ _ _ _ _ (below-is Rd 32 rd) (below-is Rs1 32 rs1) (range_fault-is ImmField 2048 imm)
valid_is (Store op rs1 rs2 imm) =
    three _ _ _ _ _ _ (below-is Rs1 32 rs1) (below-is Rs2 32 rs2) (range_fault-is ImmField 2048 imm)
valid_is (Imm op rd rs1 imm) =
    three _ _ _ _ _ _ (below-is Rd 32 rd) (below-is Rs1 32 rs1) (range_fault-is ImmField 2048 imm)
valid_is (Shift op rd rs1 amount) =
    three _ _ _ _ _ _ (below-is Rd 32 rd) (below-is Rs1 32 rs1) (below-is Amount (amount_bound op) amount)
valid_is (Reg op rd rs1 rs2) =
    three _ _ _ _ _ _ (below-is Rd 32 rd) (below-is Rs1 32 rs1) (below-is Rs2 32 rs2)
valid_is (Fence rd rs1 bits) =
    three _ _ _ _ _ _ (below-is Rd 32 rd) (below-is Rs1 32 rs1) (below-is Bits 4096 bits)
valid_is Ecall = (λ _. tt, λ _. refl)
valid_is Ebreak = (λ _. tt, λ _. refl)
valid_is PersistBarrier = (λ _. tt, λ _. refl)
valid_is NewStrand = (λ _. tt, λ _. refl)
valid_is JoinStrand = (λ _. tt, λ _. refl)
