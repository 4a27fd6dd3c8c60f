use Rattle.std.proofs.Common.{rules, subst}
use Rattle.sw_mend.specs.Spared.{SparesCommands}
use Rattle.sw_mend.proofs.sparing.is_split_spared.Goals as goal

pub returns : goal.returns
returns c told = record {
  flows = subst (SparesCommands c.args.network.now c.args.node) c.deref.ensures.value (c.spares_commands.ensures c.if-not-spares_commands.false);
  answered = subst (SparesCommands c.args.network.now c.args.node) c.deref-2.ensures.value (c.spares_commands-2.ensures told);
  limits = search rules;
}
