-- Lists of names of flows have no floats and are not deep.
use Rattle.std.proofs.Common.{ℕ, List, map}
use Rattle.serde_json.specs.Data.{array}
use Rattle.serde_json.specs.View.{items_of}
use Rattle.sw_config.specs.Entries.{Declaration}
use Rattle.sw_json.specs.Plain.{IsPlain}
use Rattle.sw_json.specs.PlaceValues.{flow_name_value}
use Rattle.sw_json.proofs.Plain.{made_plain, text_plain}

-- the names of flows
pub names_plain : (d : Declaration) (flows : List ℕ) → IsPlain 1 (array (items_of (map (flow_name_value d) flows)))
names_plain d flows = made_plain 0 (flow_name_value d) (λ f. text_plain) flows
