use Rattle.std.proofs.Common.{rules, ◌≡◌, length, refl}
use Rattle.sw_cert.specs.declared.lines.Expected.TheVariants.{Nothing}
use Rattle.sw_cert.specs.Reading.{state_of}
use Rattle.sw_cert.proofs.Runs.{read_end}
use Rattle.sw_cert.proofs.certificate.finish.Goals as goal
use Rattle.sw_cert.proofs.certificate.finish.Goals.{in-Nothing, in_default}

pub returns : goal.returns
returns c = elim c.match-matches.branch [
  | in-Nothing w ↦
      let empty : length c.args.rest.now ≡ 0 = search rules in
      let ended : c.args.draft.expected ≡ Nothing = search rules in
      (state_of c.args.draft, read_end c.args.number (state_of c.args.draft) c.args.rest.now c.requires.all ended empty, refl)
  | in_default w ↦ search rules
]
