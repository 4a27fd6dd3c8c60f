-- RMAP, as the machine's nodes speak it (ECSS-E-ST-50-52C).
use Rattle.std.specs.Prelude.{List, Option, option_and_then, ℕ}
use Rattle.sw_flow.specs.Entries.{Declaration, target_of}
use Rattle.sw_machine.specs.Network.{Protocol}
use Rattle.sw_rmap.specs.Replies.{reply_to}
use Rattle.sw_rmap.specs.Targets.{answer_of, longest_reply, memory_after, memory_at_first}
use Rattle.sw_rmap.specs.declared.config.TargetConfig.{TargetConfig}

-- where the replies to a packet go, at a node that is a target
abbrev pub answered_to : Option TargetConfig → List ℕ → Option (List ℕ)
answered_to target bytes = option_and_then (λ t. reply_to bytes) target

-- the nodes that are targets answer commands
abbrev pub rmap : Declaration → Protocol
rmap d = record {
  reply_to = λ n bytes. answered_to (target_of d.nodes n) bytes;
  answer = λ n memory bytes end. answer_of (target_of d.nodes n) memory bytes end;
  longest = λ n. longest_reply (target_of d.nodes n);
  memory_after = λ n memory bytes end. memory_after (target_of d.nodes n) memory bytes end;
  memory_at_first = λ n. memory_at_first (target_of d.nodes n);
}
