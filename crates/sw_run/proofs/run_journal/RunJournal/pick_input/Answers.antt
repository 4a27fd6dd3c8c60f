use Rattle.std.proofs.Common.{Some, ap, length, rules, subst, sym, ◌<◌, ◌∙◌, ◌≡◌, ℕ}
use Rattle.std.specs.Prelude.{IsBitSet, IsSome, slice_get, slice_set}
use Rattle.sw_config.specs.Entries.{Declaration, wiring_of}
use Rattle.sw_config.specs.Valid.{IsValid}
use Rattle.sw_flow.specs.Places.{ends_of}
use Rattle.sw_journal.specs.Record.{CanCommit}
use Rattle.sw_machine.specs.Steps.{Grant}
use Rattle.sw_run.proofs.Grants.{can_commit, is_picked, linked, switch_inside}
use Rattle.sw_run.proofs.Policies.{found, keeps, picks_at, within}
use Rattle.sw_run.proofs.run_journal.RunJournal.pick_input.Goals as goal
use Rattle.sw_run.specs.Grants.{IsPicked}
use Rattle.sw_topo.specs.Wiring.{Wiring, out_of}
use Rattle.sw_topo.specs.declared.place.PlaceEnd.TheVariants.{Switch}

pub pick-input-requires-clause-within : goal.pick-input-requires-clause-within
pick-input-requires-clause-within g c =
    let self = c.args.self.now in
    let locked = c.args.locked.now in
    let j = self.journal in
    let same = self.network_is ∙ sym self.identity_is.1 in
    let valid = subst IsValid same c.topology-topology.ensures.valid in
    let starts = subst (λ (d : Declaration). slice_get (ends_of d) c.args.end ≡ Some (Switch c.args.w c.args.out)) (sym self.identity_is.1) c.requires.starts in
    let ports = subst (λ (d : Declaration). (port : ℕ) → IsBitSet c.args.asking port → (port < 32) × IsSome (out_of (ends_of d) c.args.w port)) self.identity_is.1
    (linked j valid c.args.end c.args.w c.args.out c.args.asking starts c.requires.ask) in
    let l = locked.arbiters.items in
    let a = c.index_mut.result.now in
    let size : c.args.out < length l = search rules in
    within g.W.RunIdentity.declared locked.cell.id l c.args.w c.args.out c.args.asking locked.has_arbiters c.requires.at ports a
    (found l c.args.out c.number.result a c.number.ensures.value size c.index_mut.ensures.value)

pub invariant_of-locked-clause-has_arbiters : goal.invariant_of-locked-clause-has_arbiters
invariant_of-locked-clause-has_arbiters g c =
    let locked = c.args.locked.now in
    let l = locked.arbiters.items in
    let a = c.index_mut.result.now in
    let size : c.args.out < length l = search rules in
    let picks = picks_at l c.args.out c.number.result c.args.asking c.pick-input.result a c.pick-input.new.self c.number.ensures.value size c.index_mut.ensures.value c.pick-input.ensures.policy in
    keeps g.W.RunIdentity.declared locked.cell.id l _ c.args.out c.args.asking c.pick-input.result locked.has_arbiters picks

pub out_of-requires : goal.out_of-requires
out_of-requires g c =
    let self = c.args.self.now in
    let j = self.journal in
    let same = self.network_is ∙ sym self.identity_is.1 in
    let valid = subst IsValid same c.topology-topology.ensures.valid in
    let starts = subst (λ (d : Declaration). slice_get (ends_of d) c.args.end ≡ Some (Switch c.args.w c.args.out)) (sym self.identity_is.1) c.requires.starts in
    let wiring = c.topology-topology.ensures.wiring ∙ ap wiring_of same in
    subst (λ n. c.args.w < n) (sym (ap (λ (x : Wiring). x.switches) wiring)) (switch_inside j.declared valid c.args.end c.args.w c.args.out starts)

pub unwrap-back-requires : goal.unwrap-back-requires
unwrap-back-requires g c =
    let self = c.args.self.now in
    let j = self.journal in
    let same = self.network_is ∙ sym self.identity_is.1 in
    let valid = subst IsValid same c.topology-topology.ensures.valid in
    let starts = subst (λ (d : Declaration). slice_get (ends_of d) c.args.end ≡ Some (Switch c.args.w c.args.out)) (sym self.identity_is.1) c.requires.starts in
    let is = c.out_of.ensures.channel ∙ ap (λ (x : Wiring). out_of x.ends c.args.w c.pick-input.result) (c.topology-topology.ensures.wiring ∙ ap wiring_of same) in
    subst IsSome (sym is) (linked j valid c.args.end c.args.w c.args.out c.args.asking starts c.requires.ask c.pick-input.result c.pick-input.ensures.member).1

pub returns-clause-can : goal.returns-clause-can
returns-clause-can g c =
    let self = c.args.self.now in
    let j = self.journal in
    let same = self.network_is ∙ sym self.identity_is.1 in
    let valid = subst IsValid same c.topology-topology.ensures.valid in
    let starts = subst (λ (d : Declaration). slice_get (ends_of d) c.args.end ≡ Some (Switch c.args.w c.args.out)) (sym self.identity_is.1) c.requires.starts in
    let is = c.out_of.ensures.channel ∙ ap (λ (x : Wiring). out_of x.ends c.args.w c.pick-input.result) (c.topology-topology.ensures.wiring ∙ ap wiring_of same) in
    let goes = sym is ∙ c.unwrap-back.ensures in
    subst (λ k. CanCommit j c.args.locked.now.cell.id (Grant c.args.end k)) (sym c.partner.ensures)
    (can_commit j valid c.args.end c.args.w c.args.out c.args.asking starts c.requires.ask c.args.locked.now.cell.id c.pick-input.result c.unwrap-back.result c.requires.at c.pick-input.ensures.member goes)

pub returns-clause-picked : goal.returns-clause-picked
returns-clause-picked g c =
    let self = c.args.self.now in
    let j = self.journal in
    let same = self.network_is ∙ sym self.identity_is.1 in
    let valid = subst IsValid same c.topology-topology.ensures.valid in
    let starts = subst (λ (d : Declaration). slice_get (ends_of d) c.args.end ≡ Some (Switch c.args.w c.args.out)) (sym self.identity_is.1) c.requires.starts in
    let is = c.out_of.ensures.channel ∙ ap (λ (x : Wiring). out_of x.ends c.args.w c.pick-input.result) (c.topology-topology.ensures.wiring ∙ ap wiring_of same) in
    let goes = sym is ∙ c.unwrap-back.ensures in
    let locked = c.args.locked.now in
    let l = locked.arbiters.items in
    let a = c.index_mut.result.now in
    let size : c.args.out < length l = search rules in
    let picks = picks_at l c.args.out c.number.result c.args.asking c.pick-input.result a c.pick-input.new.self c.number.ensures.value size c.index_mut.ensures.value c.pick-input.ensures.policy in
    let after = slice_set l c.number.result c.pick-input.new.self in
    subst (λ k. IsPicked j l c.args.end k after) (sym c.partner.ensures)
    (is_picked j valid c.args.end c.args.w c.args.out c.args.asking starts c.requires.ask l after c.pick-input.result c.unwrap-back.result goes picks)
