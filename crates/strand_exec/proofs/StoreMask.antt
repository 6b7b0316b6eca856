-- Serves clause stored of asked and of plan: what masking and joining leave of a word.
use Rattle.std.proofs.Common.{◌≡◌, ℕ, ◌+◌, ◌-◌, ◌*◌, ◌/◌, ◌%◌, ◌^◌, ◌<◌, ◌≤◌, bit_and, bit_or, sym, ap, ◌∙◌, arith}
use Rattle.std.proofs.Math.Nat.{pow-le-pow_right}
use Rattle.std.proofs.lemmas.Nat.{pow_pos, pow-add, shr-shr, shr_split, and_comm, and_le_l, and_le_r, and_mask, and_block, and-not, or_block, or_shifted, or_disjoint, shl_below, mod_below}
use Rattle.strand_isa.specs.declared.ops.StoreOp.{StoreOp}
use Rattle.strand_exec.specs.Arith.{merged, store_bytes, with_bits}
use Rattle.strand_exec.specs.Plan.{store_bits, store_mask}

products : (a b c : ℕ) → (a + b) * c ≡ a * c + b * c
products a b c = omega arith

regrouped : (g v l w p : ℕ) → (g * w + v) * p + (l + 0) ≡ g * (p * w) + v * p + l
regrouped g v l w p = omega arith

-- a word whose field of `w` bits from bit `p` on is cleared
cleared : (n w p : ℕ) → n < 2 ^ 64 → w + p ≤ 64 → bit_and n (2 ^ 64 - 1 - (2 ^ w - 1) * 2 ^ p) ≡ n / 2 ^ p / 2 ^ w * 2 ^ w * 2 ^ p + n % 2 ^ p
cleared n w p small fits =
    let m = (2 ^ w - 1) * 2 ^ p in
    let h = n / 2 ^ p in
    let l = n % 2 ^ p in
    let pw = pow_pos w in
    let pp = pow_pos p in
    let low = mod_below n (2 ^ p) pp in
    let whole = shr_split n p in
    let high = shr_split h w in
    let m_small : m < 2 ^ (w + p) = shl_below (2 ^ w - 1) w p (omega arith) in
    let m_fits : m < 2 ^ 64 = omega (arith, pow-le-pow_right {n = 2} (omega arith) fits) in
    let block = and_block p (2 ^ w - 1) h 0 l pp low in
    let field = and_comm (2 ^ w - 1) h ∙ and_mask h w in
    let none = and_le_l 0 l in
    let both = and-not 64 m n m_fits small in
    let turned = and_comm n (2 ^ 64 - 1 - m) in
    let added : m + 0 ≡ m = omega arith in
    let summed : bit_and (2 ^ w - 1) h * 2 ^ p + bit_and 0 l ≡ h % 2 ^ w * 2 ^ p = rw field (omega arith) in
    let masked : bit_and m n ≡ h % 2 ^ w * 2 ^ p =
    sym (ap (λ x. bit_and x n) added) ∙ sym (ap (λ x. bit_and (m + 0) x) whole) ∙ block ∙ summed in
    let parts : h * 2 ^ p ≡ h / 2 ^ w * 2 ^ w * 2 ^ p + h % 2 ^ w * 2 ^ p =
    sym (ap (λ x. x * 2 ^ p) high) ∙ products (h / 2 ^ w * 2 ^ w) (h % 2 ^ w) (2 ^ p) in
    omega arith

pub merged_is : (n w p v : ℕ) → n < 2 ^ 64 → w + p ≤ 64 → bit_or (bit_and n (2 ^ 64 - 1 - (2 ^ w - 1) * 2 ^ p)) (v % 2 ^ w * 2 ^ p) ≡ with_bits w p v n
merged_is n w p v small fits =
    let g = n / 2 ^ p / 2 ^ w in
    let l = n % 2 ^ p in
    let pp = pow_pos p in
    let low = mod_below n (2 ^ p) pp in
    let value = mod_below v (2 ^ w) (pow_pos w) in
    let block = or_block p (g * 2 ^ w) (v % 2 ^ w) l 0 low pp in
    let joined = or_shifted g w (v % 2 ^ w) value in
    let alone : bit_or l 0 ≡ l + 0 = or_disjoint l 0 (omega (arith, and_le_r l 0)) in
    let split = shr-shr n p w in
    let power = pow-add 2 p w in
    let added : v % 2 ^ w * 2 ^ p + 0 ≡ v % 2 ^ w * 2 ^ p = omega arith in
    let summed : bit_or (g * 2 ^ w) (v % 2 ^ w) * 2 ^ p + bit_or l 0 ≡ with_bits w p v n =
    rw (joined, alone, split, power) (regrouped (n / (2 ^ p * 2 ^ w)) (v % 2 ^ w) l (2 ^ w) (2 ^ p)) in
    ap (λ x. bit_or x (v % 2 ^ w * 2 ^ p)) (cleared n w p small fits) ∙ sym (ap (λ x. bit_or (g * 2 ^ w * 2 ^ p + l) x) added) ∙ block ∙ summed

-- an aligned store is inside one word
fits : (op : StoreOp) (address : ℕ) → address % store_bytes op ≡ 0 → 8 * store_bytes op + 8 * (address % 8) ≤ 64
fits op address aligned = grind arith

pub stored_is : (op : StoreOp) (address value old : ℕ) → address % store_bytes op ≡ 0 → old < 2 ^ 64 → merged old (store_mask op address) (store_bits op address value) ≡ with_bits (8 * store_bytes op) (8 * (address % 8)) value old
stored_is op address value old aligned small =
    merged_is old (8 * store_bytes op) (8 * (address % 8)) value small (fits op address aligned)
