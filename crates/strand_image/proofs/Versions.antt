-- Serves the clauses of read_parts and read_image, and of the assembler: what is within the limits of version 1 is within those of version 2, and passes the test of these.
use Rattle.std.proofs.Common.{◌≡◌, ℕ, ◌≤◌, true, refl, arith}
use Rattle.std.specs.Prelude.{nat_le}
use Rattle.std.proofs.lemmas.Bool.Decides.{nat_tests}
use Rattle.strand_image.specs.Limits.{IsWithin, IsWithinLimits, is_within, least, most}
use Rattle.strand_image.specs.declared.quantity.Quantity.{Quantity}
use Rattle.strand_image.specs.declared.version.Version.{Version}
use Rattle.strand_image.specs.declared.version.Version.TheVariants.{First, Second}

pub limits_now : (version : Version) (cores code volatile persistent symbols fewer : ℕ) → IsWithinLimits version cores code volatile persistent symbols → fewer ≤ symbols → IsWithinLimits Second cores code volatile persistent fewer
limits_now First cores code volatile persistent symbols fewer h le = record {
  cores_within = let w = h.cores_within in (omega arith, omega arith);
  code_within = let w = h.code_within in (omega arith, omega arith);
  volatile_within = let w = h.volatile_within in (omega arith, omega arith);
  persistent_within = let w = h.persistent_within in (omega arith, omega arith);
  symbols_within = let w = h.symbols_within in (omega arith, omega arith);
}
limits_now Second cores code volatile persistent symbols fewer h le = record {
  cores_within = h.cores_within;
  code_within = h.code_within;
  volatile_within = h.volatile_within;
  persistent_within = h.persistent_within;
  symbols_within = let w = h.symbols_within in (omega arith, omega arith);
}

pub within_passes : (what : Quantity) (n : ℕ) → IsWithin what n → is_within what n ≡ true
within_passes what n h =
    let low : nat_le (least what) n ≡ true = grind (arith, nat_tests, h.0) in
    let high : nat_le n (most Second what) ≡ true = grind (arith, nat_tests, h.1) in
    rw (low, high) refl
