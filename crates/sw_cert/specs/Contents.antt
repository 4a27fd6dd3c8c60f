-- What a certificate's contents say to the machine's network.
use Rattle.std.specs.Prelude.{map}
use Rattle.sw_flow.specs.declared.place.Place as declared
use Rattle.sw_cert.specs.Text.{Contents}
use Rattle.sw_machine.specs.Network as machine
use Rattle.sw_machine.specs.Certificate.{Certificate}

abbrev pub place_of : declared.Place → machine.Place
place_of p = record { channel = p.channel; deleted = p.deleted }

-- the machine's certificate of these contents
abbrev pub certificate_of : Contents → Certificate
certificate_of c = record { numbers = c.numbers; places = map (map place_of) c.places }
