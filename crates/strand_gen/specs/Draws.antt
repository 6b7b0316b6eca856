-- The numbers that are drawn: a state of 64 bits, which each draw changes before it gives a number.
use Rattle.std.specs.Prelude.{ℕ, zero, suc, ◌*◌, ◌/◌, ◌%◌, ◌^◌, ◌==◌, List, [], ◌∷◌, bit_xor, if◌then◌else◌}

-- a state xor itself shifted by k, of which 64 bits are kept
abbrev pub xor_left : ℕ → ℕ → ℕ
xor_left k x = bit_xor x (x * 2 ^ k % 2 ^ 64)

abbrev pub xor_right : ℕ → ℕ → ℕ
xor_right k x = bit_xor x (x / 2 ^ k)

unfoldable pub next_state : ℕ → ℕ
next_state x = xor_left 17 (xor_right 7 (xor_left 13 x))

-- the state that a seed begins with
abbrev pub initial_state : ℕ → ℕ
initial_state seed = if seed == 0 then 1 else seed

-- what is drawn at a state, with the state after it
abbrev pub Drawn : Type 0 → Type 0
Drawn A = ℕ → A × ℕ

-- a number below n
abbrev pub draw : ℕ → Drawn ℕ
draw n x = (next_state x % n, next_state x)

-- one draw and then the next, which may depend on it
infixl 10 ◌>>=◌
abbrev pub ◌>>=◌ : {A B : Type 0} → Drawn A → (A → Drawn B) → Drawn B
(first >>= next) x = next (first x).0 (first x).1

-- nothing more is drawn
abbrev pub give : {A : Type 0} → A → Drawn A
give a x = (a, x)

-- so many draws, one after the other
unfoldable pub draw_list : {A : Type 0} → ℕ → Drawn A → Drawn (List A)
draw_list zero one = give []
draw_list (suc more) one = do
  first ← one
  rest ← draw_list more one
  give (first ∷ rest)
