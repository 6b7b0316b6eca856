-- An image while it is put together, as contracts see it.
use Rattle.strand_image.specs.ImageSeen.{ImageSeen}
use Rattle.strand_asm_lines.specs.declared.line.Section.{Section}

pub record DraftSeen : Type 0 where
  pub section : Section
  pub parts : ImageSeen
