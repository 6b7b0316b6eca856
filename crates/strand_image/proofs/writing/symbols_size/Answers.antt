use Rattle.std.proofs.Common.{◌≡◌, ◌+◌, length, take, get_or, ap, ◌∙◌, arith}
use Rattle.strand_image.specs.Symbols.{bytes_of_symbols}
use Rattle.strand_image.specs.declared.symbol.Symbol.{Symbol}
use Rattle.strand_image.proofs.SymbolBytes.{size_more, size_within, size_all, size_none}
use Rattle.strand_image.proofs.writing.symbols_size.Goals as goal

pub loop-symbol-init : goal.loop-symbol-init
loop-symbol-init c = size_none c.args.symbols.now

pub loop-symbol-preserved : goal.loop-symbol-preserved
loop-symbol-preserved c =
    let d = c.symbol-item.result in
    let long : length c.as_bytes.result.now ≡ length (get_or c.args.symbols.now c.loop-symbol.symbol-index d).name = ap length c.as_bytes.ensures.bytes ∙ ap (λ (s : Symbol). length s.name) c.symbol-item.is in
    let more = size_more c.args.symbols.now c.loop-symbol.symbol-index d c.loop-symbol-test.true in
    let so_far : c.loop-symbol.size ≡ length (bytes_of_symbols (take c.loop-symbol.symbol-index c.args.symbols.now)) = c.loop-symbol.invariant in
    let now : c.loop-symbol.size + (6 + length c.as_bytes.result.now) ≡ length (bytes_of_symbols (take (c.loop-symbol.symbol-index + 1) c.args.symbols.now)) = omega arith in
    now

pub overflow_add-size-in-loop-symbol : goal.overflow_add-size-in-loop-symbol
overflow_add-size-in-loop-symbol c =
    let d = c.symbol-item.result in
    let long : length c.as_bytes.result.now ≡ length (get_or c.args.symbols.now c.loop-symbol.symbol-index d).name = ap length c.as_bytes.ensures.bytes ∙ ap (λ (s : Symbol). length s.name) c.symbol-item.is in
    let within = size_within c.args.symbols.now c.loop-symbol.symbol-index d c.loop-symbol-test.true in
    let so_far : c.loop-symbol.size ≡ length (bytes_of_symbols (take c.loop-symbol.symbol-index c.args.symbols.now)) = c.loop-symbol.invariant in
    omega arith

pub returns : goal.returns
returns c =
    let so_far : c.loop-symbol.size ≡ length (bytes_of_symbols (take c.loop-symbol.symbol-index c.args.symbols.now)) = c.loop-symbol.invariant in
    so_far ∙ size_all c.args.symbols.now c.loop-symbol.symbol-index (omega arith)
