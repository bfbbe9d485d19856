-- What an image keeps of its file. No public clause names what stands here.
use Rattle.elf_image.specs.declared.image.Image.TheInside.{Inside}
use Rattle.elf_image.specs.Faults.{IsImage}
use Rattle.elf_image.specs.Inner.Layout.{IsLayoutOf}

-- the file was accepted, and the layout is its own
pub record IsPrepared (a : Inside) : Type 0 where
  pub image : IsImage a.bytes.items
  pub layout : IsLayoutOf a.bytes.items a.layout
