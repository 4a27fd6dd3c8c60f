use Rattle.std.proofs.Common.{◌≡◌, ◌≤◌, List, ℕ, ap, ◌∙◌, refl, subst, sym, rules, length, Vec, Global, Option}
use Rattle.std.specs.Prelude.{option_map}
use Rattle.sw_rmap.specs.Targets.{parted}
use Rattle.sw_node.proofs.Replies.{nothing_parted, parted_there, way_len, within_reply}
use Rattle.sw_node.proofs.reply.answer.Goals as goal
use Rattle.sw_node.proofs.reply.answer.Goals.{in-Some-2, in-None}
use Rattle.sw_rmap.specs.Replies.{reply_to}

pub invariant_of-result : goal.invariant_of-result
invariant_of-result c =
    let t = c.in-Some.target in
    let bytes = c.args.bytes.now in
    let reply = c.in-Some-3.bytes.items in
    let answered = sym (ap (λ (p : Option (List ℕ) × List ℕ). p.0) c.in_ok-bytes.ensures.answer) ∙ ap (option_map (λ (r : Vec ℕ Global). r.items)) c.in-Some-3.is in
    let counted : c.match-branch-2.address ≡ way_len (reply_to bytes) = elim c.match-branch-2.branch [
      | in-Some-2 w ↦
          let long : w.len-address.result ≡ length w.in-Some-2.way.items = search rules in
          w.address-is ∙ long ∙ ap way_len (sym (ap (option_map (λ (r : Vec ℕ Global). r.items)) w.in-Some-2.is) ∙ c.in_ok-way.ensures)
      | in-None w ↦ w.address-is ∙ ap way_len (sym (ap (option_map (λ (r : Vec ℕ Global). r.items)) w.in-None.is) ∙ c.in_ok-way.ensures)
    ] in
    subst (λ n. n ≤ length reply) (sym counted) (within_reply c.answers_by_the_way_back.ensures t.config t.memory bytes c.args.end reply (reply_to bytes) refl answered)

pub returns-in-Some-3-clause-reply : goal.returns-in-Some-3-clause-reply
returns-in-Some-3-clause-reply c =
    let t = c.in-Some.target in
    let bytes = c.args.bytes.now in
    let reply = c.in-Some-3.bytes.items in
    let answered = sym (ap (λ (p : Option (List ℕ) × List ℕ). p.0) c.in_ok-bytes.ensures.answer) ∙ ap (option_map (λ (r : Vec ℕ Global). r.items)) c.in-Some-3.is in
    let counted : c.match-branch-2.address ≡ way_len (reply_to bytes) = elim c.match-branch-2.branch [
      | in-Some-2 w ↦
          let long : w.len-address.result ≡ length w.in-Some-2.way.items = search rules in
          w.address-is ∙ long ∙ ap way_len (sym (ap (option_map (λ (r : Vec ℕ Global). r.items)) w.in-Some-2.is) ∙ c.in_ok-way.ensures)
      | in-None w ↦ w.address-is ∙ ap way_len (sym (ap (option_map (λ (r : Vec ℕ Global). r.items)) w.in-None.is) ∙ c.in_ok-way.ensures)
    ] in
    rw (counted, c.in-Some.is) (parted_there c.answers_by_the_way_back.ensures t.config t.memory bytes c.args.end reply (reply_to bytes) refl answered)

pub returns-in-None-2-clause-reply : goal.returns-in-None-2-clause-reply
returns-in-None-2-clause-reply c =
    let way = reply_to c.args.bytes.now in
    let answered = sym (ap (λ (p : Option (List ℕ) × List ℕ). p.0) c.in_ok-bytes.ensures.answer) ∙ ap (option_map (λ (r : Vec ℕ Global). r.items)) c.in-None-2.is in
    rw c.in-Some.is (sym (ap (parted way) answered ∙ nothing_parted way))
