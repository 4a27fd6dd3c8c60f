use Rattle.std.proofs.Common.{◌≡◌, ◌∙◌, ◌<◌, length, map, refl, ap, sym, subst}
use Rattle.std.specs.Prelude.{Some, option_map, slice_get}
use Rattle.std.proofs.lemmas.List.{length-map}
use Rattle.std.proofs.lemmas.Option.{slice_get-map, slice_get_read}
use Rattle.sw_cert.specs.Grammar.{IsBlock}
use Rattle.sw_cert.specs.Reading.{items_of}
use Rattle.sw_cert.specs.Text.{Contents}
use Rattle.sw_cert.proofs.Blocks.{all_at}
use Rattle.sw_cert.proofs.certificate.Certificate.places.Goals as goal

within : (c : goal.After-deref) → c.args.flow < length c.self.inside.places.items
within c =
    let same : length (map items_of c.self.inside.places.items) ≡ length c.args.self.now.places = ap (λ (v : Contents). length v.places) c.self.view_is in
    subst (λ n. c.args.flow < n) (sym same ∙ length-map c.self.inside.places.items items_of) c.requires

pub returns-clause-places : goal.returns-clause-places
returns-clause-places c =
    let lists = c.self.inside.places.items in
    ap (λ (v : Contents). slice_get v.places c.args.flow) (sym c.self.view_is)
    ∙ slice_get-map items_of lists c.args.flow
    ∙ ap (option_map items_of) (slice_get_read lists (length lists) c.args.flow c.index.result.now refl (within c) c.index.ensures)
    ∙ ap Some (sym c.deref.ensures.value)

pub returns-clause-block : goal.returns-clause-block
returns-clause-block c =
    subst IsBlock (sym c.deref.ensures.value) (all_at items_of IsBlock c.self.inside.places.items c.args.flow c.index.result.now c.self.invariant.blocks (within c) c.index.ensures)
