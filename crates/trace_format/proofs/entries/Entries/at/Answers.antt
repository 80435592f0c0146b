use Rattle.std.proofs.Common.{◌≡◌, ◌<◌, Some, arith, ap, refl, length}
use Rattle.std.specs.List.{slice_get}
use Rattle.std.proofs.lemmas.List.{length-map}
use Rattle.std.proofs.lemmas.Option.{slice_get-map, slice_get_read}
use Rattle.trace_format.specs.Entries.{entry_at}
use Rattle.trace_format.proofs.entries.Entries.at.Goals as goal

pub returns : goal.returns
returns c =
    let text = c.self.inside.text.value.items in
    let spots = c.self.inside.spots.items in
    let spot = c.index.result.now in
    let number = c.args.number in
    let lt : number < length spots = omega (arith, c.requires, ap length c.self.view_is, length-map spots (entry_at text)) in
    let there : slice_get spots number ≡ Some spot = slice_get_read spots (length spots) number spot refl lt c.index.ensures in
    rw (← c.self.view_is, slice_get-map (entry_at text) spots number, there, c.within.ensures) refl
