-- What a link end's numbers tell of the buffer there.
use Rattle.std.proofs.Common.{Some, ap, arith, length, ℕ, ◌*◌, ◌-◌, ◌<◌, ◌∙◌, ◌≡◌}
use Rattle.std.specs.Prelude.{slice_get}
use Rattle.sw_config.specs.Entries.{capacities}
use Rattle.sw_config.specs.Valid.{IsValid}
use Rattle.sw_machine.proofs.Credit.{reached_numbers}
use Rattle.sw_machine.proofs.DeclaredNetworks.{are_networks}
use Rattle.sw_machine.specs.Model.{network_of}
use Rattle.sw_net.proofs.Delivered.{channel_count}
use Rattle.sw_net.proofs.New.{node_capacity}
use Rattle.sw_net.specs.Net.{NetView}
use Rattle.sw_net.specs.Numbers.{AreNumbers}
use Rattle.sw_net.specs.declared.numbers.Numbers.{Numbers}
use Rattle.sw_topo.proofs.Ends.{partner_back}
use Rattle.sw_topo.specs.Wiring.{partner}
use Rattle.sw_net.specs.Delivery.{IsBuffered}

-- what is neither free nor outstanding is held
pub held_is : {R A : Type 0} (v : NetView R A) (channel e capacity held : ℕ) (numbers : Numbers) → IsValid v.declared → channel < 2 * length v.declared.links → e ≡ partner channel
    → slice_get (capacities v.declared.links) channel ≡ Some capacity → AreNumbers v e numbers → held ≡ capacity - numbers.room - numbers.outstanding → IsBuffered v channel held
held_is v channel e capacity held numbers valid within is at told count = λ s of.
    let net = network_of v.declared in
    let back : partner e ≡ channel = ap partner is ∙ partner_back channel in
    let all = channel_count v.declared in
    let size : capacity ≡ net.capacity channel = node_capacity v.declared channel capacity at in
    let kept = (reached_numbers net (are_networks v.declared valid) s of.reached).at channel (omega (arith, within, all)) in
    let fits = kept.fits in
    let same = told s of in
    let room : numbers.room ≡ net.capacity channel - length (s.buffer channel) - s.outstanding channel =
    ap (λ (n : Numbers). n.room) same ∙ ap (λ (c : ℕ). net.capacity c - length (s.buffer c) - s.outstanding c) back
    in
    let outstanding : numbers.outstanding ≡ s.outstanding channel = ap (λ (n : Numbers). n.outstanding) same ∙ ap s.outstanding back in
    omega (arith, size, fits, room, outstanding, count)
