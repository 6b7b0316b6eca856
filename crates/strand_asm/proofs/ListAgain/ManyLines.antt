-- Serves clause again of list: a pass over printed lines, in parts.
use Rattle.std.proofs.Common.{◌≡◌, ◌≢◌, ℕ, zero, suc, ◌+◌, ◌^◌, ◌<◌, ◌≤◌, List, [], ◌∷◌, ◌++◌, length, get_or, map, replicate, Result, Ok, refl, sym, ap, subst, ◌∙◌, arith, append_assoc, add-one, add-zero}
use Rattle.std.specs.Fmt.{decimal}
use Rattle.std.proofs.lemmas.List.{append-nil, length-append, length-replicate}
use lib.Chars.{codes}
use Rattle.strand_base.specs.declared.limits.TheConstants.{MOST_DATA}
use Rattle.strand_asm_lines.specs.declared.line.Line.{Line}
use Rattle.strand_asm.specs.declared.fault.AsmFault.{AsmFault}
use Rattle.strand_asm.specs.Layout.{on_line, over_lines}
use Rattle.strand_asm.specs.Listing.{code_text, code_texts, data_texts, names_lines, past_names, past_word, space_text, word_lines, word_text}
use Rattle.strand_asm.proofs.ListAgain.CodeWords.{IsCodeLine}
use Rattle.strand_asm.proofs.ListAgain.OneLine.{over_more}

abbrev pub zeros_of : ℕ → List ℕ
zeros_of n = replicate n 0

-- one more word of 0
zeros_more : (n : ℕ) → zeros_of (n + 1) ≡ zeros_of n ++ 0 ∷ []
zeros_more zero = refl
zeros_more (suc n) = rw (add-one (suc n)) (ap (λ (s : List ℕ). 0 ∷ s) (rw (add-one n) at (zeros_more n)))

module _ {S : Type 0} (step : ℕ → S → Line → Result S AsmFault) where
  -- a line, whatever its number, takes a pass from each state of one kind to one of another kind
  abbrev pub Takes : (S → Type 0) → (S → Type 0) → List ℕ → Type 0
  Takes P Q text = (n : ℕ) (s : S) → P s → (t : S) × (Q t × (on_line step n s text ≡ Ok t))

  -- so do lines, whatever follows
  abbrev pub Goes : (S → Type 0) → (S → Type 0) → List (List ℕ) → Type 0
  Goes P Q texts = (n : ℕ) (s : S) (rest : List (List ℕ)) → P s → (t : S) × (Q t × ((m : ℕ) × (over_lines step n s (texts ++ rest) ≡ over_lines step m t rest)))

  pub goes_none : (P Q : S → Type 0) → ((s : S) → P s → Q s) → Goes P Q []
  goes_none P Q same n s rest p = (s, (same s p, (n, refl)))

  pub goes_cons : (P Q R : S → Type 0) (text : List ℕ) (texts : List (List ℕ)) → Takes P Q text → Goes Q R texts → Goes P R (text ∷ texts)
  goes_cons P Q R text texts h g n s rest p =
      let a = h n s p in
      let k = g (n + 1) a.0 rest a.1.0 in
      (k.0, (k.1.0, (k.1.1.0, over_more step n s a.0 text (texts ++ rest) a.1.1 ∙ k.1.1.1)))

  pub goes_append : (P Q R : S → Type 0) (xs ys : List (List ℕ)) → Goes P Q xs → Goes Q R ys → Goes P R (xs ++ ys)
  goes_append P Q R xs ys g h n s rest p =
      let k = g n s (ys ++ rest) p in
      let l = h k.1.1.0 k.0 rest k.1.0 in
      (l.0, (l.1.0, (l.1.1.0, ap (over_lines step n s) (append_assoc xs ys rest) ∙ k.1.1.1 ∙ l.1.1.1)))

  pub goes_all : (P Q : S → Type 0) (texts : List (List ℕ)) → Goes P Q texts → (n : ℕ) (s : S) → P s → (t : S) × (Q t × (over_lines step n s texts ≡ Ok t))
  unfolding over_lines
  goes_all P Q texts g n s p =
      let k = g n s [] p in
      (k.0, (k.1.0, ap (over_lines step n s) (sym (append-nil texts)) ∙ k.1.1.1))

  -- lines that each add a number
  pub goes_map : (text : ℕ → List ℕ) (A : ℕ → Type 0) (F : List ℕ → S → Type 0) → ((xs : List ℕ) (w : ℕ) → A w → Takes (F xs) (F (xs ++ w ∷ [])) (text w))
      → (xs ws : List ℕ) → ((k : ℕ) → k < length ws → A (get_or ws k 0)) → Goes (F xs) (F (xs ++ ws)) (map text ws)
  goes_map text A F add xs [] all = rw (append-nil xs) (goes_none (F xs) (F xs) (λ s p. p))
  goes_map text A F add xs (w ∷ ws) all =
      let rest = goes_map text A F add (xs ++ w ∷ []) ws (λ k lt. all (suc k) (omega (arith, lt))) in
      goes_cons (F xs) (F (xs ++ w ∷ [])) (F (xs ++ w ∷ ws)) (text w) (map text ws) (add xs w (all zero (omega arith)))
      (rw (append_assoc xs (w ∷ []) ws) at rest)

  -- The lines of a section. In a state of kind `F j xs` the words xs were told, and the names before place j.
  module _ (names : ℕ → List (List ℕ)) (F : ℕ → List ℕ → S → Type 0)
      (names_add : (at : ℕ) (xs : List ℕ) → (names at ≢ [] → length xs ≡ at) → Goes (F at xs) (F (at + 1) xs) (names at)) where
    pub goes_code : (word_adds : (j : ℕ) (xs : List ℕ) (w : ℕ) → IsCodeLine (code_text w) w → Takes (F j xs) (F j (xs ++ w ∷ [])) (code_text w))
        → (ws : List ℕ) (at : ℕ) (xs : List ℕ) → length xs ≡ at → ((k : ℕ) → k < length ws → IsCodeLine (code_text (get_or ws k 0)) (get_or ws k 0))
        → Goes (F at xs) (F (at + length ws + 1) (xs ++ ws)) (code_texts names at ws)
    goes_code word_adds [] at xs e all = rw (append-nil xs, add-zero at) (names_add at xs (λ some. e))
    goes_code word_adds (w ∷ ws) at xs e all =
        let here = word_adds (at + 1) xs w (all zero (omega arith)) in
        let long : length (xs ++ w ∷ []) ≡ at + 1 = length-append xs (w ∷ []) ∙ ap (λ (n : ℕ). n + 1) e in
        let rest = goes_code word_adds ws (at + 1) (xs ++ w ∷ []) long (λ k lt. all (suc k) (omega (arith, lt))) in
        let place : (at + 1) + length ws + 1 ≡ at + length (w ∷ ws) + 1 = omega arith in
        let more = goes_cons (F (at + 1) xs) (F (at + 1) (xs ++ w ∷ [])) _ (code_text w) (code_texts names (at + 1) ws) here rest in
        goes_append (F at xs) (F (at + 1) xs) (F (at + length (w ∷ ws) + 1) (xs ++ w ∷ ws)) (names at) (code_text w ∷ code_texts names (at + 1) ws) (names_add at xs (λ some. e))
        (rw (place, append_assoc xs (w ∷ []) ws) at more)

    module _ (zeros_add : (j : ℕ) (xs : List ℕ) (n : ℕ) → suc n ≤ MOST_DATA → Takes (F j xs) (F j (xs ++ zeros_of (suc n))) (codes ".space " ++ decimal (suc n)))
        (word_adds : (j : ℕ) (xs : List ℕ) (w : ℕ) → w < 2 ^ 64 → Takes (F j xs) (F j (xs ++ w ∷ [])) (word_text 0 w)) where
      goes_space : (j count : ℕ) (xs : List ℕ) → count ≤ MOST_DATA → Goes (F j xs) (F j (xs ++ zeros_of count)) (space_text count)
      goes_space j zero xs le = rw (append-nil xs) (goes_none (F j xs) (F j xs) (λ s p. p))
      goes_space j (suc n) xs le =
          goes_cons (F j xs) (F j (xs ++ zeros_of (suc n))) _ (codes ".space " ++ decimal (suc n)) [] (zeros_add j xs n le) (goes_none (F j (xs ++ zeros_of (suc n))) _ (λ s p. p))

      -- what is known of the lines of the words that are left
      abbrev GoOn : List ℕ → Type 0
      GoOn ws = (at count : ℕ) (xs : List ℕ) → length xs + count ≡ at → at + length ws ≤ MOST_DATA → Goes (F at xs) (F (at + length ws + 1) (xs ++ (zeros_of count ++ ws))) (data_texts names at count ws)

      told_length : (xs : List ℕ) (count at : ℕ) → length xs + count ≡ at → length (xs ++ zeros_of count) ≡ at
      told_length xs count at e = length-append xs (zeros_of count) ∙ ap (λ (k : ℕ). length xs + k) (length-replicate count 0) ∙ e

      -- a word behind the names of its place
      goes_word : (w : ℕ) (ws : List ℕ) → w < 2 ^ 64 → GoOn ws → (at left : ℕ) (xs : List ℕ) → length xs + left ≡ at → at + length (w ∷ ws) ≤ MOST_DATA
          → Goes (F (at + 1) xs) (F (at + length (w ∷ ws) + 1) (xs ++ (zeros_of left ++ w ∷ ws))) (word_lines left w ++ data_texts names (at + 1) (past_word left w) ws)
      goes_word zero ws fits more at left xs e le =
          let rest = more (at + 1) (left + 1) xs (omega (arith, e)) (omega (arith, le)) in
          let place : (at + 1) + length ws + 1 ≡ at + length (zero ∷ ws) + 1 = omega arith in
          let same : zeros_of (left + 1) ++ ws ≡ zeros_of left ++ zero ∷ ws = ap (λ (s : List ℕ). s ++ ws) (zeros_more left) ∙ append_assoc (zeros_of left) (zero ∷ []) ws in
          subst (λ (s : List ℕ). Goes (F (at + 1) xs) (F (at + length (zero ∷ ws) + 1) (xs ++ s)) (data_texts names (at + 1) (left + 1) ws)) same
          (subst (λ (k : ℕ). Goes (F (at + 1) xs) (F k (xs ++ (zeros_of (left + 1) ++ ws))) (data_texts names (at + 1) (left + 1) ws)) place rest)
      goes_word (suc w) ws fits more at left xs e le =
          let told = xs ++ zeros_of left in
          let pushed = told ++ suc w ∷ [] in
          let long : length pushed + 0 ≡ at + 1 = add-zero (length pushed) ∙ length-append told (suc w ∷ []) ∙ ap (λ (k : ℕ). k + 1) (told_length xs left at e) in
          let front = goes_space (at + 1) left xs (omega (arith, le)) in
          let here = goes_cons (F (at + 1) told) (F (at + 1) pushed) (F (at + 1) pushed) (word_text 0 (suc w)) [] (word_adds (at + 1) told (suc w) fits) (goes_none (F (at + 1) pushed) (F (at + 1) pushed) (λ s p. p)) in
          let both = goes_append (F (at + 1) xs) (F (at + 1) told) (F (at + 1) pushed) (space_text left) (word_text 0 (suc w) ∷ []) front here in
          let rest = more (at + 1) 0 pushed long (omega (arith, le)) in
          let place : (at + 1) + length ws + 1 ≡ at + length (suc w ∷ ws) + 1 = omega arith in
          let same : pushed ++ ws ≡ xs ++ (zeros_of left ++ suc w ∷ ws) = append_assoc told (suc w ∷ []) ws ∙ append_assoc xs (zeros_of left) (suc w ∷ ws) in
          let whole = goes_append (F (at + 1) xs) (F (at + 1) pushed) (F ((at + 1) + length ws + 1) (pushed ++ ws)) (space_text left ++ word_text 0 (suc w) ∷ []) (data_texts names (at + 1) 0 ws) both rest in
          let texts = (space_text left ++ word_text 0 (suc w) ∷ []) ++ data_texts names (at + 1) 0 ws in
          subst (λ (s : List ℕ). Goes (F (at + 1) xs) (F (at + length (suc w ∷ ws) + 1) s) texts) same (subst (λ (k : ℕ). Goes (F (at + 1) xs) (F k (pushed ++ ws)) texts) place whole)

      -- the names of a place, and the word behind them
      goes_named : (w : ℕ) (ws : List ℕ) → w < 2 ^ 64 → GoOn ws → (at count : ℕ) (xs : List ℕ) → length xs + count ≡ at → at + length (w ∷ ws) ≤ MOST_DATA → (ns : List (List ℕ)) → names at ≡ ns
          → Goes (F at xs) (F (at + length (w ∷ ws) + 1) (xs ++ (zeros_of count ++ w ∷ ws))) (names_lines count ns ++ (word_lines (past_names count ns) w ++ data_texts names (at + 1) (past_word (past_names count ns) w) ws))
      goes_named w ws fits more at count xs e le [] same =
          let named = subst (λ (ns : List (List ℕ)). Goes (F at xs) (F (at + 1) xs) ns) same (names_add at xs (λ some. absurd (some same))) in
          goes_append (F at xs) (F (at + 1) xs) _ [] (word_lines count w ++ data_texts names (at + 1) (past_word count w) ws) named (goes_word w ws fits more at count xs e le)
      goes_named w ws fits more at count xs e le (n ∷ ns) same =
          let told = xs ++ zeros_of count in
          let long = told_length xs count at e in
          let front = goes_space at count xs (omega (arith, le)) in
          let named = subst (λ (l : List (List ℕ)). Goes (F at told) (F (at + 1) told) l) same (names_add at told (λ some. long)) in
          let both = goes_append (F at xs) (F at told) (F (at + 1) told) (space_text count) (n ∷ ns) front named in
          let rest = goes_word w ws fits more at 0 told (add-zero (length told) ∙ long) le in
          let texts = word_lines 0 w ++ data_texts names (at + 1) (past_word 0 w) ws in
          let joined : told ++ w ∷ ws ≡ xs ++ (zeros_of count ++ w ∷ ws) = append_assoc xs (zeros_of count) (w ∷ ws) in
          goes_append (F at xs) (F (at + 1) told) _ (space_text count ++ n ∷ ns) texts both (subst (λ (s : List ℕ). Goes (F (at + 1) told) (F (at + length (w ∷ ws) + 1) s) texts) joined rest)

      pub goes_data : (ws : List ℕ) → ((k : ℕ) → k < length ws → get_or ws k 0 < 2 ^ 64) → GoOn ws
      goes_data [] all at count xs e le =
          let told = xs ++ zeros_of count in
          let front = goes_space at count xs (omega (arith, le)) in
          let both = goes_append (F at xs) (F at told) (F (at + 1) told) (space_text count) (names at) front (names_add at told (λ some. told_length xs count at e)) in
          rw (add-zero at, append-nil (zeros_of count)) both
      goes_data (w ∷ ws) all at count xs e le = goes_named w ws (all zero (omega arith)) (goes_data ws (λ k lt. all (suc k) (omega (arith, lt)))) at count xs e le (names at) refl
