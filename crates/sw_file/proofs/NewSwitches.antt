-- A switch of version 1 and the same switch in version 2.
use Rattle.std.proofs.Common.{◌≡◌, ℕ, List, [], map, Option, Some, None, Ok, refl, sym, ap, ◌∙◌}
use Rattle.toml.specs.Data.{Data, Members, get_member}
use Rattle.sw_route.specs.declared.look.Look.{Look}
use Rattle.sw_route.specs.declared.look.Route.{Route as RouteEntry}
use Rattle.sw_route.specs.Looks.{look_by, look_of}
use Rattle.sw_config.specs.Entries.{SwitchEntry}
use Rattle.sw_text.specs.declared.keys.Key.{Key}
use Rattle.sw_text.specs.declared.keys.Key.TheVariants.{Name, Arbiter, Route}
use Rattle.sw_text.specs.declared.keys.Section.{Section}
use Rattle.sw_text.specs.declared.keys.Section.TheVariants as section
use Rattle.sw_text.specs.declared.keys.Version.TheVariants.{One, Two}
use Rattle.sw_text.specs.Keys.{key_text}
use Rattle.sw_text.specs.Gives.{each, walk}
use Rattle.sw_text.specs.Table.{only_known, tables_or_none}
use Rattle.sw_text.specs.Names.{name_at}
use Rattle.sw_text.specs.KeyLaws.{HasOnly}
use Rattle.sw_text.specs.SectionKeys.{switch_keys}
use Rattle.sw_file.specs.Names.{new_name}
use Rattle.sw_file.specs.Switches.{arbitration_at, next_route, routes_at, switch_of}
use Rattle.sw_file.specs.Rows.{Entry, rows}
use Rattle.sw_file.specs.Tree.{array_of, with_key, with_tables, entry_of, row_table, merged_switch}
use Rattle.sw_file.proofs.RowLooks.{single, row_route, answer, rows_answer}
use Rattle.sw_file.proofs.Known.{passed}
use Rattle.sw_file.proofs.Tables.{passes}
use Rattle.sw_file.proofs.PutMembers.{get_other, only_put}
use Rattle.sw_file.proofs.RowEntries.{ok_same}
use Rattle.sw_file.proofs.RowRoutes.{AreEntries, old_routes, new_routes, rows_fresh, rows_readable}
use Rattle.sw_file.proofs.NewTables.{tables-anywhere, without, within, new_tables}
use Rattle.sw_text.proofs.Results.{bind_ok}

-- two routing tables answer alike where they do so for each logical address
look_alike : (f g : ℕ → Look) (byte : ℕ) → ((a : ℕ) → f a ≡ g a) → look_by f byte ≡ look_by g byte
look_alike f g byte same = rw (same byte) refl

rows_look : (es : List Entry) (byte : ℕ) → look_of (map row_route (rows es)) byte ≡ look_of (map single es) byte
rows_look es byte = look_alike (λ a. answer a (map row_route (rows es))) (λ a. answer a (map single es)) byte (rows_answer es)

-- the switch with merged routing table: the table, and its entry in the new network
pub record IsMerged (i : ℕ) (taken : List (List ℕ)) (t : Members) (s : SwitchEntry) : Type 0 where
  pub table : Members
  pub entry : SwitchEntry
  pub merged : merged_switch t ≡ Ok table
  pub read : switch_of Two i taken table ≡ Ok entry
  pub name : entry.name ≡ s.name
  pub arbitration : entry.arbitration ≡ s.arbitration
  pub looks : (byte : ℕ) → look_of entry.routes byte ≡ look_of s.routes byte

-- a table that keeps all but its routing table
record KeepsRest (t u : Members) : Type 0 where
  keys : HasOnly switch_keys u
  name : get_member (key_text Name) u ≡ get_member (key_text Name) t
  arbiter : get_member (key_text Arbiter) u ≡ get_member (key_text Arbiter) t

-- the new routing table, of the table with it
record IsRerouted (i : ℕ) (t : Members) (routes : List RouteEntry) : Type 0 where
  table : Members
  new : List RouteEntry
  merged : merged_switch t ≡ Ok table
  rest : KeepsRest t table
  read : routes_at Two i table ≡ Ok new
  looks : (byte : ℕ) → look_of new byte ≡ look_of routes byte

merged_as : (t : Members) (tables : List Members) (es : List Entry) → tables_or_none section.Document Route t ≡ Ok tables → each entry_of tables ≡ Ok es → merged_switch t ≡ Ok (with_tables Route (map row_table (rows es)) t)
unfolding merged_switch
merged_as t tables es listed read = rw (listed, read) refl

routes_from : (i : ℕ) (u : Members) (tables : List Members) (routes : List RouteEntry) → tables_or_none (section.Switch i) Route u ≡ Ok tables → walk (next_route Two i) [] tables ≡ Ok routes → routes_at Two i u ≡ Ok routes
unfolding routes_at
routes_from i u tables routes listed walked = rw (listed, walked) refl

no_tables : (s : Section) (key : Key) (t : Members) (tables : List Members) → get_member (key_text key) t ≡ None → tables_or_none s key t ≡ Ok tables → [] ≡ tables
no_tables s key t tables none listed = ok_same [] tables (sym (empty s key t none) ∙ listed)
  where
    empty : (s : Section) (key : Key) (t : Members) → get_member (key_text key) t ≡ None → tables_or_none s key t ≡ Ok []
    empty s key t none = rw none refl

rerouted_at : (i : ℕ) (t : Members) (tables : List Members) (routes : List RouteEntry) (o : Option Data) → get_member (key_text Route) t ≡ o → HasOnly switch_keys t → tables_or_none (section.Switch i) Route t ≡ Ok tables → (is : AreEntries [] tables routes) → IsRerouted i t routes
rerouted_at i t tables routes None there keys listed is =
    let merged = merged_as t tables is.entries (tables-anywhere (section.Switch i) section.Document Route t tables listed) is.read in
    let none : [] ≡ tables = no_tables (section.Switch i) Route t tables there listed in
    let entries : [] ≡ is.entries = ok_same [] is.entries (rw (← none) at is.read) in
    record {
      table = t;
      new = routes;
      merged = merged ∙ ap Ok (without Route (map row_table (rows is.entries)) t there);
      rest = record { keys = keys; name = refl; arbiter = refl };
      read = routes_from i t tables routes listed (rw (← none, is.are, ← entries) refl);
      looks = λ byte. refl;
    }
rerouted_at i t tables routes (Some d) there keys listed is =
    let merged = merged_as t tables is.entries (tables-anywhere (section.Switch i) section.Document Route t tables listed) is.read in
    let new = map row_table (rows is.entries) in
    record {
      table = with_key Route (array_of new) t;
      new = map row_route (rows is.entries);
      merged = merged ∙ ap Ok (within Route new t d there);
      rest = record {
        keys = only_put switch_keys (key_text Route) (array_of new) t refl keys;
        name = get_other (key_text Name) (key_text Route) (array_of new) t refl;
        arbiter = get_other (key_text Arbiter) (key_text Route) (array_of new) t refl;
      };
      read = routes_from i (with_key Route (array_of new) t) new (map row_route (rows is.entries)) (new_tables (section.Switch i) Route new t) (new_routes i 0 [] (rows is.entries) (rows_readable is.entries is.known) (rows_fresh is.entries is.fresh));
      looks = λ byte. rw is.are (rows_look is.entries byte);
    }

rerouted : (i : ℕ) (t : Members) (routes : List RouteEntry) → HasOnly switch_keys t → routes_at One i t ≡ Ok routes → IsRerouted i t routes
unfolding routes_at
rerouted i t routes keys well =
    let a = bind_ok (tables_or_none (section.Switch i) Route t) (λ tables. walk (next_route One i) [] tables) routes well in
    rerouted_at i t a.0 routes (get_member (key_text Route) t) refl keys a.1 (old_routes i 0 [] a.0 routes a.2)

name_same : (s : Section) (taken : List (List ℕ)) (t u : Members) → get_member (key_text Name) u ≡ get_member (key_text Name) t → new_name s taken u ≡ new_name s taken t
unfolding new_name name_at
name_same s taken t u same = rw same refl

arbitration_same : (i : ℕ) (t u : Members) → get_member (key_text Arbiter) u ≡ get_member (key_text Arbiter) t → arbitration_at i u ≡ arbitration_at i t
unfolding arbitration_at
arbitration_same i t u same = rw same refl

switch_from : (i : ℕ) (taken : List (List ℕ)) (u : Members) (s : SwitchEntry) → only_known (section.Switch i) switch_keys u ≡ Ok tt → new_name (section.Switch i) taken u ≡ Ok s.name → arbitration_at i u ≡ Ok s.arbitration → routes_at Two i u ≡ Ok s.routes → switch_of Two i taken u ≡ Ok s
unfolding switch_of
switch_from i taken u s a b c d = rw (a, b, c, d) refl

pub merged_read : (i : ℕ) (taken : List (List ℕ)) (t : Members) (s : SwitchEntry) → switch_of One i taken t ≡ Ok s → IsMerged i taken t s
unfolding switch_of
merged_read i taken t s well =
    let a = bind_ok (only_known (section.Switch i) switch_keys t) _ s well in
    let b = bind_ok (new_name (section.Switch i) taken t) _ s a.2 in
    let c = bind_ok (arbitration_at i t) _ s b.2 in
    let d = bind_ok (routes_at One i t) _ s c.2 in
    let same : record { name = b.0; arbitration = c.0; routes = d.0 } ≡ s = ok_same (record { name = b.0; arbitration = c.0; routes = d.0 }) s d.2 in
    let r = rerouted i t d.0 (passed (section.Switch i) switch_keys t a.0 a.1) d.1 in
    record {
      table = r.table;
      entry = record { name = b.0; arbitration = c.0; routes = r.new };
      merged = r.merged;
      read = switch_from i taken r.table (record { name = b.0; arbitration = c.0; routes = r.new }) (passes (section.Switch i) switch_keys r.table r.rest.keys) (name_same (section.Switch i) taken t r.table r.rest.name ∙ b.1) (arbitration_same i t r.table r.rest.arbiter ∙ c.1) r.read;
      name = ap (λ x. x.name) same;
      arbitration = ap (λ x. x.arbitration) same;
      looks = λ byte. r.looks byte ∙ ap (λ x. look_of x.routes byte) same;
    }
