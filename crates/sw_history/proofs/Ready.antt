-- Which nodes can begin their next packets.
use Rattle.std.proofs.Common.{None, Option, Some, ap, arith, false, inl, inr, sym, true, ℕ, ◌+◌, ◌<◌, ◌∙◌, ◌≡◌, ◌≤◌}
use Rattle.std.specs.Option.{is_some, option_map}
use Rattle.std.specs.Prelude.{List, slice_get}
use Rattle.sw_config.specs.Entries.{Declaration}
use Rattle.sw_history.specs.Noted.{packet_after, within_limit}
use Rattle.sw_history.specs.Way.{IsReady, ready_packet}
use Rattle.sw_load.specs.History.{packets_at, packets_of}
use Rattle.sw_load.specs.Load.{LoadEntry}
use Rattle.sw_load.specs.Senders.{SendersView}
use Rattle.sw_machine.specs.Model.{network_of}
use Rattle.sw_machine.specs.Begun.{Begun}
use Rattle.sw_net.specs.Net.{NetView}
use Rattle.sw_net.specs.Possible.{TellsBeginning}
use Rattle.sw_net.specs.Unanswered.{Counts}

pub ready_if : {X R A : Type 0} (load : List LoadEntry) (v : NetView R A) (counts : Counts) (n k : ℕ) (packet : X → Begun) (next : Option X) → option_map packet next ≡ ready_packet load v.declared counts n k → TellsBeginning v n true
    → IsReady load v counts n k (is_some next)
ready_if load v counts n k packet None is tells = inl (sym is)
ready_if load v counts n k packet (Some x) is tells = ((packet x, sym is), tells)

-- what is read of the senders is that packet
pub read_ready : {X R A : Type 0} (load : List LoadEntry) (v : NetView R A) (counts : Counts) (n k : ℕ) (packet : X → Begun) (next : Option X) (d : Declaration) (s : SendersView) → d ≡ v.declared → s.declared ≡ v.declared → s.load ≡ load
    → option_map packet next ≡ within_limit d counts (packet_after s n k) → option_map packet next ≡ ready_packet load v.declared counts n k
read_ready load v counts n k packet next d s same senders its is =
    is ∙ ap (λ e. within_limit e counts (packet_after s n k)) same
    ∙ ap (λ e. within_limit v.declared counts (slice_get (packets_at (network_of e) n (packets_of s.load)) k)) senders
    ∙ ap (λ l. within_limit v.declared counts (slice_get (packets_at (network_of v.declared) n (packets_of l)) k)) its

pub not_ready : {R A : Type 0} (load : List LoadEntry) (v : NetView R A) (counts : Counts) (n k : ℕ) → TellsBeginning v n false → IsReady load v counts n k false
not_ready load v counts n k none = inr none

-- what is below the size of a list is below a count that came to its end
pub below_end : (k size end n : ℕ) → k < size → size ≡ end → end ≤ n → k < n
below_end k size end n within same past = omega (arith, within, same, past)

-- such a count is all
pub all_counted : (n end count : ℕ) → end ≤ n → n ≤ end → end ≡ count → n ≡ count
all_counted n end count past most is = omega (arith, past, most, is)

pub add_none : (n : ℕ) → n + 0 ≡ n
add_none n = omega arith
