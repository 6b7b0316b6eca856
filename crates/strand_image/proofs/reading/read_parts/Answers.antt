use Rattle.std.proofs.Common.{Bool, ◌≡◌, refl, ap, ◌∙◌, Result, Ok, Err}
use Rattle.strand_image.specs.ImageSeen.{ImageSeen, image_seen}
use Rattle.strand_image.specs.Image.{parts_at, whole_image, symbols_at, GivesImage}
use Rattle.strand_image.specs.Symbols.{is_whole, spelt_symbols}
use Rattle.strand_image.specs.declared.fault.ImageFault.{ImageFault}
use Rattle.strand_image.specs.declared.fault.ImageFault.TheVariants.{Magic, Short, Long, Limit, Entry, Symbol, OutOfMemory}
use Rattle.strand_base.proofs.LittleEndian.{length-numbers}
use Rattle.strand_image.proofs.Versions.{limits_now}
use Rattle.strand_image.proofs.SymbolBytes.{spelt_bound}
use Rattle.strand_image.proofs.reading.read_parts.Goals as goal

gives_same : {X : Type 0} (result read : Result X ImageFault) → result ≡ read → GivesImage result read
gives_same (Ok x) read e = e
gives_same (Err Magic) read e = e
gives_same (Err (Short need have)) read e = e
gives_same (Err (Long need have)) read e = e
gives_same (Err (Limit what n)) read e = e
gives_same (Err (Entry core n)) read e = e
gives_same (Err (Symbol k)) read e = e
gives_same (Err OutOfMemory) read e = tt

pub whole_image-requires : goal.whole_image-requires
whole_image-requires c =
    simp (c.in-Ok.ensures, c.in-Ok-read_u32s.ensures, c.in-Ok-read_u64s.ensures, c.in-Ok-read_u64s-2.ensures, c.in-Ok-read_symbols.ensures.symbols, length-numbers)
    (limits_now c.args.header.version _ _ _ _ c.args.header.symbols _ c.requires.within (spelt_bound c.args.header.symbols c.split_at-5.result.1.now))

pub returns : goal.returns
returns c =
    let same : image_seen c.in-Ok.entries.items c.in-Ok-read_u32s.code.items c.in-Ok-read_u64s.volatile.items c.in-Ok-read_u64s-2.persistent.items c.read_symbols.new.into.items ≡ parts_at c.args.header c.args.bytes.now
    = simp (c.in-Ok.ensures, c.in-Ok-read_u32s.ensures, c.in-Ok-read_u64s.ensures, c.in-Ok-read_u64s-2.ensures, c.in-Ok-read_symbols.ensures.symbols) (simp (c.split_at-5.ensures.back, c.split_at-4.ensures.back, c.split_at-3.ensures.back, c.split_at-2.ensures.back, c.split_at.ensures.back, c.head_length.ensures) refl) in
    let whole : c.in-Ok-read_symbols.whole ≡ is_whole c.args.header.symbols (spelt_symbols c.args.header.symbols (symbols_at c.args.header c.args.bytes.now))
    = c.in-Ok-read_symbols.ensures.whole ∙ simp (c.split_at-5.ensures.back, c.split_at-4.ensures.back, c.split_at-3.ensures.back, c.split_at-2.ensures.back, c.split_at.ensures.back, c.head_length.ensures) refl in
    gives_same _ _ (c.whole_image.ensures ∙ ap (λ (p : ImageSeen). whole_image p c.in-Ok-read_symbols.whole) same ∙ ap (λ (b : Bool). whole_image (parts_at c.args.header c.args.bytes.now) b) whole)
