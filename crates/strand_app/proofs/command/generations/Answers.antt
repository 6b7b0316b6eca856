use Rattle.std.proofs.Common.{◌≡◌, ◌∙◌, ◌-◌, ◌<◌, ◌≤◌, ℕ, List, length, map, take, drop, sym, arith}
use Rattle.std.proofs.lemmas.List.{length-map}
use Rattle.std.specs.Prelude.{String, string_bytes}
use Rattle.std.specs.declared.alloc.Global.{Global}
use Rattle.strand_app.proofs.AgainWords.{generations_of, none_many, none_pairs, some_pairs}
use Rattle.strand_app.proofs.command.generations.Goals as goal

-- as many words are behind the first two, as texts and as bytes
long : (words : List (String Global)) → length (map string_bytes words) ≡ length words
long words = length-map words string_bytes

pub returns-then-pairs : goal.returns-then-pairs
returns-then-pairs c =
    let pairs = take (length c.args.words.now - 2) (drop 2 c.args.words.now) in
    let many : 32 < length (map string_bytes pairs) = omega (arith, long pairs, c.if-pairs.true) in
    sym (generations_of c.args.words.now c.machine-item.result c.image-item.result c.machine-item.is c.image-item.is c.in-len2-up.len_at_least
    ∙ none_many (string_bytes c.machine-item.result) (string_bytes c.image-item.result) (map string_bytes pairs) many)

pub returns-then-not-are_pairs : goal.returns-then-not-are_pairs
returns-then-not-are_pairs c =
    let pairs = take (length c.args.words.now - 2) (drop 2 c.args.words.now) in
    sym (generations_of c.args.words.now c.machine-item.result c.image-item.result c.machine-item.is c.image-item.is c.in-len2-up.len_at_least
    ∙ none_pairs (string_bytes c.machine-item.result) (string_bytes c.image-item.result) (map string_bytes pairs) (sym c.are_pairs.ensures ∙ c.if-not-are_pairs.true))

pub returns : goal.returns
returns c =
    let pairs = take (length c.args.words.now - 2) (drop 2 c.args.words.now) in
    let low : 2 ≤ length (map string_bytes pairs) = omega (arith, long pairs, c.if-pairs-lt2.false) in
    let high : length (map string_bytes pairs) ≤ 32 = omega (arith, long pairs, c.if-pairs.false) in
    rw (c.as_str.ensures.value, c.as_str-2.ensures.value) (sym (generations_of c.args.words.now c.machine-item.result c.image-item.result c.machine-item.is c.image-item.is c.in-len2-up.len_at_least
    ∙ some_pairs (string_bytes c.machine-item.result) (string_bytes c.image-item.result) (map string_bytes pairs) (sym c.are_pairs.ensures ∙ c.if-not-are_pairs.false) low high))
