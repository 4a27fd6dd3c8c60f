use Rattle.std.proofs.Common.{◌↔◌, IsTrue, List, inl, inr, option_map, refl, subst}
use Rattle.sw_search.specs.Laws.{RoutedAndFree}
use Rattle.sw_mend.specs.Limitings.{AreSlots, limited_by, limited_to}
use Rattle.sw_mend.specs.declared.limiting.TargetSlots.{TargetSlots}
use Rattle.sw_mend.proofs.FirstLimits.{not_with_slots, told_with_slots}
use Rattle.sw_mend.proofs.limiting.limit_and_slots.Goals as goal

pub returns-then-branch : goal.returns-then-branch
returns-then-branch g c =
    let d = c.args.network.now in
    let are = subst (λ o. AreSlots (limited_to d c.args.most) (option_map (λ v. v.items) o)) c.in-Some.is c.in_ok-slots.ensures in
    let freed =
    subst (λ (l : List TargetSlots). IsTrue c.in_ok-frees.field-0 ↔ RoutedAndFree (limited_by d (record { most = c.args.most; slots = l }))) c.deref.ensures.value c.in_ok-frees.ensures in
    inl (told_with_slots d c.args.most c.in-Some.slots.items are c.in_ok-frees.field-0 freed c.if-branch.true)

pub returns-else-branch : goal.returns-else-branch
returns-else-branch g c =
    let d = c.args.network.now in
    let are = subst (λ o. AreSlots (limited_to d c.args.most) (option_map (λ v. v.items) o)) c.in-Some.is c.in_ok-slots.ensures in
    let freed =
    subst (λ (l : List TargetSlots). IsTrue c.in_ok-frees.field-0 ↔ RoutedAndFree (limited_by d (record { most = c.args.most; slots = l }))) c.deref.ensures.value c.in_ok-frees.ensures in
    inr (not_with_slots d c.args.most c.in-Some.slots.items are c.in_ok-frees.field-0 freed c.if-branch.false, refl)
