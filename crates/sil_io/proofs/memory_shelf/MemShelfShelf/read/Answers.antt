use Rattle.std.proofs.Common.{◌≡◌, ◌+◌, ◌++◌, Some, List, ℕ, take, drop, length, ◌∙◌, ap, sym, subst, Option}
use Rattle.sil_io.specs.Handed.{handed_more}
use Rattle.sil_io.specs.Reading.{handed_of, IsReading}
use Rattle.sil_io.specs.ShelfState.{name_at, bytes_at}
use Rattle.sil_io.specs.declared.memory_shelf.Reading.{Reading}
use Rattle.sil_io.proofs.Files.{get-bytes}
use Rattle.sil_io.proofs.HandedBytes.{front-given}
use Rattle.sil_io.proofs.memory_shelf.MemShelfShelf.read.Goals as goal

pub returns-clause-handed : goal.returns-clause-handed
returns-clause-handed c =
    let files = c.self.inside.files.items in
    let reading = c.in-Some.reading in
    let bytes : List ℕ = bytes_at files reading.place in
    let before : c.args.self.now.handed ≡ handed_of files (Some reading) = ap (λ s. s.handed) (sym c.self.view_is) ∙ ap (handed_of files) c.in-Some.is in
    let there : IsReading files (Some reading) = let P : Option Reading → Type 0 = IsReading files in subst P c.in-Some.is c.self.invariant in
    let whole : c.deref.result.now ≡ bytes =
    c.deref.ensures.value ∙ ap (λ f. f.bytes) (c.behind-self.view_is ∙ c.index.ensures) ∙ get-bytes files c.index.result.now reading.place there.0 in
    let n = c.give-count.result in
    let taken : take (reading.read + n) bytes ≡ take reading.read bytes ++ take n c.give-count.new.buf =
    front-given reading.read n (length c.args.buf.now) bytes c.deref.result.now (drop n c.args.buf.now) c.give-count.new.buf whole c.give-count.ensures.count c.give-count.ensures.given in
    ap (λ xs. record { name = Some (name_at files reading.place); bytes = xs }) taken ∙ ap (λ h. handed_more h (take n c.give-count.new.buf)) (sym before)
