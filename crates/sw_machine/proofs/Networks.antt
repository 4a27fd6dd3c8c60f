-- What holds of each network, in other words.
use Rattle.std.proofs.Common.{List, Some, ap, sym, ℕ, ◌<◌, ◌∙◌, ◌≡◌}
use Rattle.std.specs.Option.{option_map}
use Rattle.sw_char.specs.declared.nchar.End.{End}
use Rattle.sw_machine.specs.Network.{IsNetwork, Network}
use Rattle.sw_rmap.specs.Owing.{PendingReply}

-- a reply goes where `reply_to` says
pub reply_goes : (net : Network) (ok : IsNetwork net) (n : ℕ) (memory bytes : List ℕ) (r : PendingReply) (end : End) → n < net.nodes → net.answer n memory bytes end ≡ Some r → net.reply_to n bytes ≡ Some r.address
reply_goes net ok n memory bytes r end ln answer = sym (ok.answers.reply_goes n memory bytes end ln) ∙ ap (option_map (λ (r : PendingReply). r.address)) answer
