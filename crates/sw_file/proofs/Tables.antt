-- Each table is read exactly where it is as the words say.
use Rattle.std.proofs.Common.{◌≡◌, ◌≢◌, ℕ, ◌+◌, ◌≤◌, false, List, get_or, Ok, Err, All, refl, sym, subst, ap, ◌∙◌, arith, inl, inr}
use Rattle.std.specs.Prelude.{nat_le, position, if◌then◌else◌}
use Rattle.std.specs.List.{list_any}
use Rattle.std.specs.Str.{bytes_eq}
use Rattle.std.proofs.lemmas.Bool.{cases_Bool, leb-true, le-leb, false≢true, false_from_ne_true}
use Rattle.std.proofs.lemmas.List.Folds.{list_any_at, list_any_none}
use Rattle.std.proofs.lemmas.List.Elements.{All-weaker}
use Rattle.std.proofs.lemmas.Slice.Eq.{bytes_eq-Decides}
use Rattle.toml.specs.Data.{Members}
use Rattle.sw_rmap.specs.declared.config.TargetConfig.{TargetConfig}
use Rattle.sw_config.specs.Entries.{NodeEntry}
use Rattle.sw_text.specs.declared.keys.Key.{Key}
use Rattle.sw_text.specs.declared.keys.Key.TheVariants.{Name, Target, Logical, TargetKey, Start, Size, Slots, Outstanding}
use Rattle.sw_text.specs.declared.keys.Section.{Section}
use Rattle.sw_text.specs.declared.keys.Section.TheVariants as section
use Rattle.sw_text.specs.declared.keys.Version.{Version}
use Rattle.sw_text.specs.declared.fault.KeyFault.TheVariants.{OutOfRange, UnknownName, DuplicateName}
use Rattle.sw_text.specs.declared.fault.TextFault.TheVariants as fault
use Rattle.sw_text.specs.Gives.{ok_or}
use Rattle.sw_text.specs.Names.{is_name, name_at}
use Rattle.sw_text.specs.Table.{only_known, text_at, number_at, number_or, number_or_none, absent}
use Rattle.sw_text.specs.KeyLaws.{HasOnly}
use Rattle.sw_text.proofs.Unknown.{refuses_least_unknown}
use Rattle.sw_text.specs.SectionKeys.{node_keys, target_keys}
use Rattle.sw_file.specs.Keys.{most_slots}
use Rattle.sw_file.specs.Names.{new_name, place_at}
use Rattle.sw_file.specs.Nodes.{size_at, config_of, target_or_none, node_of}
use Rattle.sw_file.specs.Values.{IsNumber, Has}
use Rattle.sw_file.specs.Tables.{IsNamed, Refers, IsTargetTable, IsNodeTable}
use Rattle.sw_file.proofs.Known.{well, passed}
use Rattle.sw_file.proofs.Values.{there, has_text, text_is, has_number, has_number_it, has_number_or, number_or_is, has_number_or_none, number_or_none_is, has_if_any, if_any_is}
use Rattle.sw_text.proofs.Results.{bind_ok, test_passed}

-- a table that has its keys alone passes
pub passes : (s : Section) (keys : List Key) (ms : Members) → HasOnly keys ms → only_known s keys ms ≡ Ok tt
passes s keys ms only = (refuses_least_unknown s keys ms).0.1 only

-- names of which none is this one
Free : List (List ℕ) → List ℕ → Type 0
Free taken name = All (λ k. k ≢ name) taken

pub free : (taken : List (List ℕ)) (name : List ℕ) → list_any (bytes_eq name) taken ≡ false → All (λ k. k ≢ name) taken
free taken name absent = λ k d lt same. false≢true (sym absent ∙ list_any_at (bytes_eq name) taken k d lt ((bytes_eq-Decides name (get_or taken k d)).1 (sym same)))

pub free_is : (taken : List (List ℕ)) (name : List ℕ) → All (λ k. k ≢ name) taken → list_any (bytes_eq name) taken ≡ false
free_is taken name all =
    list_any_none (bytes_eq name) taken
    (All-weaker (λ k. k ≢ name) (λ k. bytes_eq name k ≡ false) (λ k apart. false_from_ne_true (bytes_eq name k) (λ same. apart (sym ((bytes_eq-Decides name k).0 same)))) taken all)

has_name : (s : Section) (ms : Members) (name : List ℕ) → name_at s ms ≡ Ok name → IsNamed ms name
unfolding name_at
has_name s ms name h =
    let text = bind_ok (text_at s Name ms) (λ n. if is_name n then Ok n else Err (fault.Key OutOfRange s Name)) name h in
    let form = test_passed (is_name text.0) text.0 name (fault.Key OutOfRange s Name) text.2 in
    record { text = has_text s Name ms name (text.1 ∙ ap Ok form.1); form = ap is_name (sym form.1) ∙ form.0 }

name_is : (s : Section) (ms : Members) (name : List ℕ) → IsNamed ms name → name_at s ms ≡ Ok name
unfolding name_at
name_is s ms name is = rw (text_is s Name ms name is.text, is.form) refl

pub has_new_name : (s : Section) (taken : List (List ℕ)) (ms : Members) (name : List ℕ) → new_name s taken ms ≡ Ok name → IsNamed ms name × All (λ k. k ≢ name) taken
unfolding new_name
has_new_name s taken ms name h =
    let read = bind_ok (name_at s ms) (λ n. if list_any (bytes_eq n) taken then Err (fault.Key DuplicateName s Name) else Ok n) name h in
    elim (cases_Bool (list_any (bytes_eq read.0) taken)) [
      | inl taken_name ↦ (let e : Err (fault.Key DuplicateName s Name) ≡ Ok name = rw taken_name at read.2 in absurd cc)
      | inr new ↦
          let e : Ok read.0 ≡ Ok name = rw new at read.2 in
          let same : read.0 ≡ name = cc in
          (has_name s ms name (read.1 ∙ ap Ok same), free taken name (ap (λ n. list_any (bytes_eq n) taken) (sym same) ∙ new))
    ]

pub new_name_is : (s : Section) (taken : List (List ℕ)) (ms : Members) (name : List ℕ) → IsNamed ms name → All (λ k. k ≢ name) taken → new_name s taken ms ≡ Ok name
unfolding new_name
new_name_is s taken ms name is new = rw (name_is s ms name is, free_is taken name new) refl

pub refers : (s : Section) (key : Key) (names : List (List ℕ)) (ms : Members) (i : ℕ) → place_at s key names ms ≡ Ok i → Refers names key ms i
unfolding place_at
refers s key names ms i h =
    let text = bind_ok (text_at s key ms) (λ n. ok_or (position (bytes_eq n) names) (fault.Key UnknownName s key)) i h in
    record { name = text.0; text = has_text s key ms text.0 text.1; number = there (position (bytes_eq text.0) names) (fault.Key UnknownName s key) i text.2 }

pub place_is : (s : Section) (key : Key) (names : List (List ℕ)) (ms : Members) (i : ℕ) → Refers names key ms i → place_at s key names ms ≡ Ok i
unfolding place_at
place_is s key names ms i is = rw (text_is s key ms is.name is.text, is.number) refl

-- a target
has_size : (i start : ℕ) (ms : Members) (size : ℕ) → size_at i start ms ≡ Ok size → Has (IsNumber 1 65536) Size ms size × (start + size ≤ 1099511627776)
unfolding size_at
has_size i start ms size h =
    let n = bind_ok (number_at (section.Target i) Size 1 65536 ms) (λ n. if nat_le (start + n) 1099511627776 then Ok n else Err (fault.Key OutOfRange (section.Target i) Size)) size h in
    let fits = test_passed (nat_le (start + n.0) 1099511627776) n.0 size (fault.Key OutOfRange (section.Target i) Size) n.2 in
    (has_number (section.Target i) Size ms 1 65536 size (n.1 ∙ ap Ok fits.1), omega (arith, leb-true (start + n.0) 1099511627776 fits.0, fits.1))

size_is : (i start : ℕ) (ms : Members) (size : ℕ) → Has (IsNumber 1 65536) Size ms size → start + size ≤ 1099511627776 → size_at i start ms ≡ Ok size
unfolding size_at
size_is i start ms size is fits = rw (has_number_it (section.Target i) Size ms 1 65536 size is, le-leb (start + size) 1099511627776 fits) refl

is_target : (version : Version) (i : ℕ) (ms : Members) (c : TargetConfig) → config_of version i ms ≡ Ok c → IsTargetTable version ms c
unfolding config_of
is_target version i ms c h =
    well (only_known (section.Target i) (target_keys version) ms) c (λ f is. rw is at h) (λ u keys.
    well (number_at (section.Target i) Logical 32 254 ms) c (λ f is. rw (keys, is) at h) (λ logical at_logical.
    well (number_or (section.Target i) TargetKey 0 255 0 ms) c (λ f is. rw (keys, at_logical, is) at h) (λ key at_key.
    well (number_or (section.Target i) Start 0 1099511627775 0 ms) c (λ f is. rw (keys, at_logical, at_key, is) at h) (λ start at_start.
    well (size_at i start ms) c (λ f is. rw (keys, at_logical, at_key, at_start, is) at h) (λ size at_size.
    well (number_or (section.Target i) Slots 1 (most_slots version) 1 ms) c (λ f is. rw (keys, at_logical, at_key, at_start, at_size, is) at h) (λ slots at_slots.
    let made : Ok (record { logical = logical; key = key; start = start; size = size; slots = slots }) ≡ Ok c = rw (keys, at_logical, at_key, at_start, at_size, at_slots) at h in
    let same : record { logical = logical; key = key; start = start; size = size; slots = slots } ≡ c = cc in
    let window = has_size i start ms size at_size in
    subst (IsTargetTable version ms) same (record {
      keys = passed (section.Target i) (target_keys version) ms u keys;
      logical = has_number (section.Target i) Logical ms 32 254 logical at_logical;
      key = has_number_or (section.Target i) TargetKey ms 0 255 0 key at_key;
      start = has_number_or (section.Target i) Start ms 0 1099511627775 0 start at_start;
      size = window.0;
      window = window.1;
      slots = has_number_or (section.Target i) Slots ms 1 (most_slots version) 1 slots at_slots;
    })))))))

target_is : (version : Version) (i : ℕ) (ms : Members) (c : TargetConfig) → IsTargetTable version ms c → config_of version i ms ≡ Ok c
unfolding config_of
target_is version i ms c is =
    rw (
      passes (section.Target i) (target_keys version) ms is.keys,
      has_number_it (section.Target i) Logical ms 32 254 c.logical is.logical,
      number_or_is (section.Target i) TargetKey ms 0 255 0 c.key is.key,
      number_or_is (section.Target i) Start ms 0 1099511627775 0 c.start is.start,
      size_is i c.start ms c.size is.size is.window,
      number_or_is (section.Target i) Slots ms 1 (most_slots version) 1 c.slots is.slots,
    ) refl

-- a node
pub is_node : (version : Version) (i : ℕ) (taken : List (List ℕ)) (ms : Members) (e : NodeEntry) → node_of version i taken ms ≡ Ok e → IsNodeTable version ms e × All (λ k. k ≢ e.name) taken
unfolding node_of target_or_none
is_node version i taken ms e h =
    well (only_known (section.Node i) (node_keys version) ms) e (λ f is. rw is at h) (λ u keys.
    well (new_name (section.Node i) taken ms) e (λ f is. rw (keys, is) at h) (λ name at_name.
    well (target_or_none version i ms) e (λ f is. rw (keys, at_name, is) at h) (λ target at_target.
    well (number_or_none (section.Node i) Outstanding 1 65535 ms) e (λ f is. rw (keys, at_name, at_target, is) at h) (λ outstanding at_outstanding.
    let made : Ok (record { name = name; target = target; outstanding = outstanding }) ≡ Ok e = rw (keys, at_name, at_target, at_outstanding) at h in
    let same : record { name = name; target = target; outstanding = outstanding } ≡ e = cc in
    let named = has_new_name (section.Node i) taken ms name at_name in
    subst (λ (x : NodeEntry). IsNodeTable version ms x × All (λ k. k ≢ x.name) taken) same (
      record {
        keys = passed (section.Node i) (node_keys version) ms u keys;
        named = named.0;
        target = has_if_any (section.Node i) Target ms (IsTargetTable version) (config_of version i) (λ t c. is_target version i t c) target at_target;
        outstanding = has_number_or_none (section.Node i) Outstanding ms 1 65535 outstanding at_outstanding;
      },
      named.1,
    )))))

pub node_is : (version : Version) (i : ℕ) (taken : List (List ℕ)) (ms : Members) (e : NodeEntry) → IsNodeTable version ms e → All (λ k. k ≢ e.name) taken → node_of version i taken ms ≡ Ok e
unfolding node_of target_or_none
node_is version i taken ms e is new =
    rw (
      passes (section.Node i) (node_keys version) ms is.keys,
      new_name_is (section.Node i) taken ms e.name is.named new,
      if_any_is (section.Node i) Target ms (IsTargetTable version) (config_of version i) (λ t c. target_is version i t c) e.target is.target,
      number_or_none_is (section.Node i) Outstanding ms 1 65535 e.outstanding is.outstanding,
    ) refl
