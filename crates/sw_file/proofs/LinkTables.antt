-- A table of a link is read exactly where it is as the words say.
use Rattle.std.proofs.Common.{◌≡◌, ℕ, ◌+◌, ◌-◌, false, List, Option, Some, None, Ok, Err, refl, subst, ap, ◌∙◌, arith, inl, inr}
use Rattle.std.specs.Prelude.{nat_lt}
use Rattle.std.proofs.lemmas.Bool.{cases_Bool, ltb-true, ltb-false, lt-ltb, false_from_ne_true}
use Rattle.toml.specs.Data.{Data, Members, get_member}
use Rattle.sw_topo.specs.declared.place.PlaceEnd.{PlaceEnd}
use Rattle.sw_topo.specs.declared.place.PlaceEnd.TheVariants as places
use Rattle.sw_config.specs.Entries.{LinkEntry}
use Rattle.sw_text.specs.declared.keys.Key.{Key}
use Rattle.sw_text.specs.declared.keys.Key.TheVariants.{A, APort, B, BPort, Buffer, BufferA, BufferB}
use Rattle.sw_text.specs.declared.keys.Section.{Section}
use Rattle.sw_text.specs.declared.keys.Section.TheVariants as section
use Rattle.sw_text.specs.declared.keys.Version.{Version}
use Rattle.sw_text.specs.declared.fault.TextFault.TheVariants as fault
use Rattle.sw_text.specs.Keys.{key_text}
use Rattle.sw_text.specs.Gives.{◌>>=◌}
use Rattle.sw_text.specs.Table.{only_known, absent, number_at, number_or}
use Rattle.sw_text.specs.SectionKeys.{link_keys}
use Rattle.sw_file.specs.Names.{place_at}
use Rattle.sw_file.specs.Links.{end_at, link_of}
use Rattle.sw_file.specs.Values.{Lacks}
use Rattle.sw_file.specs.Tables.{HasEnd, IsLinkTable}
use Rattle.sw_file.proofs.Known.{well, passed}
use Rattle.sw_file.proofs.Values.{has_number, has_number_it, has_number_or, number_or_is}
use Rattle.sw_file.proofs.Tables.{passes, refers, place_is}
use Rattle.sw_text.proofs.Results.{bind_ok}

lacks_by : (s : Section) (key : Key) (ms : Members) (u : Unit {0}) → absent s key ms ≡ Ok u → (o : Option Data) → get_member (key_text key) ms ≡ o → Lacks key ms
lacks_by s key ms u h None e = e
lacks_by s key ms u h (Some d) e = let bad : Err (fault.UnknownKey s (key_text key)) ≡ Ok u = rw e at h in absurd cc

lacks_is : (s : Section) (key : Key) (ms : Members) → Lacks key ms → absent s key ms ≡ Ok tt
lacks_is s key ms e = rw e refl

-- an end of a link
has_end : (s : Section) (key port : Key) (nodes : ℕ) (names : List (List ℕ)) (ms : Members) (e : PlaceEnd) → end_at s key port nodes names ms ≡ Ok e → HasEnd key port nodes names ms e
unfolding end_at
has_end s key port nodes names ms e h =
    well (place_at s key names ms) e (λ f is. rw is at h) (λ place at_place.
    elim (cases_Bool (nat_lt place nodes)) [
      | inl below ↦
          let read : (absent s port ms >>= λ no_port. Ok (places.Node place)) ≡ Ok e = rw (at_place, below) at h in
          let none = bind_ok (absent s port ms) (λ no_port. Ok (places.Node place)) e read in
          let given : Ok (places.Node place) ≡ Ok e = none.2 in
          let same : places.Node place ≡ e = cc in
          subst (HasEnd key port nodes names ms) same (refers s key names ms place at_place, ltb-true place nodes below, lacks_by s port ms none.0 none.1 (get_member (key_text port) ms) refl)
      | inr past ↦
          let read : (number_at s port 0 31 ms >>= λ number. Ok (places.Switch (place - nodes) number)) ≡ Ok e = rw (at_place, past) at h in
          let number = bind_ok (number_at s port 0 31 ms) (λ number. Ok (places.Switch (place - nodes) number)) e read in
          let given : Ok (places.Switch (place - nodes) number.0) ≡ Ok e = number.2 in
          let same : places.Switch (place - nodes) number.0 ≡ e = cc in
          let at : place ≡ nodes + (place - nodes) = omega (arith, ltb-false place nodes past) in
          subst (HasEnd key port nodes names ms) same (refers s key names ms (nodes + (place - nodes)) (at_place ∙ ap Ok at), has_number s port ms 0 31 number.0 number.1)
    ])

end_is : (s : Section) (key port : Key) (nodes : ℕ) (names : List (List ℕ)) (ms : Members) (e : PlaceEnd) → HasEnd key port nodes names ms e → end_at s key port nodes names ms ≡ Ok e
unfolding end_at
end_is s key port nodes names ms (places.Node n) is = rw (place_is s key names ms n is.0, lt-ltb n nodes is.1, lacks_is s port ms is.2) refl
end_is s key port nodes names ms (places.Switch t p) is =
    let past : nat_lt (nodes + t) nodes ≡ false = false_from_ne_true (nat_lt (nodes + t) nodes) (λ below. absurd (omega (arith, ltb-true (nodes + t) nodes below))) in
    let back : (nodes + t) - nodes ≡ t = omega arith in
    rw (place_is s key names ms (nodes + t) is.0, past, back, has_number_it s port ms 0 31 p is.1) refl

-- a link
pub is_link : (version : Version) (i nodes : ℕ) (names : List (List ℕ)) (ms : Members) (e : LinkEntry) → link_of version i nodes names ms ≡ Ok e → IsLinkTable version nodes names ms e
unfolding link_of
is_link version i nodes names ms e h =
    well (only_known (section.Link i) (link_keys version) ms) e (λ f is. rw is at h) (λ u keys.
    well (end_at (section.Link i) A APort nodes names ms) e (λ f is. rw (keys, is) at h) (λ a at_a.
    well (end_at (section.Link i) B BPort nodes names ms) e (λ f is. rw (keys, at_a, is) at h) (λ b at_b.
    well (number_or (section.Link i) Buffer 8 4096 64 ms) e (λ f is. rw (keys, at_a, at_b, is) at h) (λ buffer at_buffer.
    well (number_or (section.Link i) BufferA 8 4096 buffer ms) e (λ f is. rw (keys, at_a, at_b, at_buffer, is) at h) (λ buffer_a at_buffer_a.
    well (number_or (section.Link i) BufferB 8 4096 buffer ms) e (λ f is. rw (keys, at_a, at_b, at_buffer, at_buffer_a, is) at h) (λ buffer_b at_buffer_b.
    let made : Ok (record { a = a; b = b; buffer_a = buffer_a; buffer_b = buffer_b }) ≡ Ok e = rw (keys, at_a, at_b, at_buffer, at_buffer_a, at_buffer_b) at h in
    let same : record { a = a; b = b; buffer_a = buffer_a; buffer_b = buffer_b } ≡ e = cc in
    subst (IsLinkTable version nodes names ms) same (record {
      keys = passed (section.Link i) (link_keys version) ms u keys;
      a = has_end (section.Link i) A APort nodes names ms a at_a;
      b = has_end (section.Link i) B BPort nodes names ms b at_b;
      buffer = buffer;
      both = has_number_or (section.Link i) Buffer ms 8 4096 64 buffer at_buffer;
      buffer_a = has_number_or (section.Link i) BufferA ms 8 4096 buffer buffer_a at_buffer_a;
      buffer_b = has_number_or (section.Link i) BufferB ms 8 4096 buffer buffer_b at_buffer_b;
    })))))))

pub link_is : (version : Version) (i nodes : ℕ) (names : List (List ℕ)) (ms : Members) (e : LinkEntry) → IsLinkTable version nodes names ms e → link_of version i nodes names ms ≡ Ok e
unfolding link_of
link_is version i nodes names ms e is =
    rw (
      passes (section.Link i) (link_keys version) ms is.keys,
      end_is (section.Link i) A APort nodes names ms e.a is.a,
      end_is (section.Link i) B BPort nodes names ms e.b is.b,
      number_or_is (section.Link i) Buffer ms 8 4096 64 is.buffer is.both,
      number_or_is (section.Link i) BufferA ms 8 4096 is.buffer e.buffer_a is.buffer_a,
      number_or_is (section.Link i) BufferB ms 8 4096 is.buffer e.buffer_b is.buffer_b,
    ) refl
