-- What a bag gives, where what waits for a node is known.
use Rattle.std.proofs.Common.{◌≡◌, ℕ, ◌+◌, ◌%◌, ◌<◌, [], ◌∷◌, ◌++◌, length, Some, Ok, Err, Option, Result, refl, ap, ◌∙◌, subst, ap₂, arith}
use Rattle.std.specs.List.{slice_get}
use Rattle.std.proofs.lemmas.Bool.Decides.{nat_tests}
use Rattle.model.specs.Channels.{Puts, Takes}
use Rattle.model.specs.declared.message.Message.{Message}
use Rattle.model.specs.declared.refusal.Refusal.{Refusal}
use Rattle.model.proofs.Counts.{added_length}
use Rattle.queue.specs.Queues.{lane, lanes, PutsLast}
use Rattle.channels.specs.Channels.{Bag, channel_waiting, channel_capacity, TakesPicked}
use Rattle.known_bag.proofs.Lanes.{lane_more}

-- one message more waits for its node, where there is room
pub record More (before : Bag) (m : Message) (after : Bag) : Type 0 where
  pub lane : lanes after.queue m.to ≡ lanes before.queue m.to ++ (m ∷ [])
  pub count : length (channel_waiting after) ≡ 1 + length (channel_waiting before)
  pub room : channel_capacity after ≡ channel_capacity before

pub one_more : (before after : Bag) (m : Message) (r : Result Unit Refusal) → length (channel_waiting before) < channel_capacity before
    → Puts channel_waiting channel_capacity before m r after → PutsLast before.queue m r after.queue → More before m after
one_more before after m (Ok _) roomy (asked, put) last = record {
  lane = lane_more before.queue after.queue m m.to last refl;
  count = added_length m (channel_waiting before) (channel_waiting after) put.added;
  room = put.room;
}
one_more before after m (Err why) roomy (asked, same) stays = absurd (grind (arith, nat_tests, asked))

-- of two that wait for node n, an odd pick gives the later one
later : (before after : Bag) (n pick : ℕ) (first second : Message) (r : Result (Option Message) Refusal) → n < 16
    → lanes before.queue n ≡ first ∷ second ∷ [] → pick % 2 ≡ 1
    → Takes channel_waiting channel_capacity before n r after → TakesPicked before n pick r after → r ≡ Ok (Some second)
later before after n pick first second (Ok given) near waits odd takes picked =
    let number : pick % length (lanes before.queue n) ≡ 1 = ap (λ xs. pick % length xs) waits ∙ odd in
    ap Ok (picked.which ∙ ap₂ slice_get waits number)
later before after n pick first second (Err why) near waits odd (asked, same) picked = absurd (grind (arith, nat_tests, asked))

-- a new bag, two messages put for node n, and a take by an odd pick
module _ (bag once twice after : Bag) (n pick : ℕ) (first second : Message) (r s : Result Unit Refusal) (t : Result (Option Message) Refusal)
    (none : channel_waiting bag ≡ []) (wide : channel_capacity bag ≡ 64) (to : first.to ≡ n) (to_2 : second.to ≡ n)
    (put : Puts channel_waiting channel_capacity bag first r once) (last : PutsLast bag.queue first r once.queue)
    (put_2 : Puts channel_waiting channel_capacity once second s twice) (last_2 : PutsLast once.queue second s twice.queue)
    (take : Takes channel_waiting channel_capacity twice n t after) (picked : TakesPicked twice n pick t after) where
  pub later_of_two : n < 16 → pick % 2 ≡ 1 → t ≡ Ok (Some second)
  later_of_two near odd =
      let empty : length (channel_waiting bag) ≡ 0 = ap length none in
      let one = one_more bag once first r (omega arith) put last in
      let two = one_more once twice second s (omega (arith, one.count, one.room)) put_2 last_2 in
      let after_one : lanes once.queue n ≡ first ∷ [] = subst (λ k. lanes once.queue k ≡ lanes bag.queue k ++ (first ∷ [])) to one.lane ∙ ap (λ xs. lane n xs ++ (first ∷ [])) none in
      let after_two : lanes twice.queue n ≡ first ∷ second ∷ [] = subst (λ k. lanes twice.queue k ≡ lanes once.queue k ++ (second ∷ [])) to_2 two.lane ∙ ap (λ xs. xs ++ (second ∷ [])) after_one in
      later twice after n pick first second t near after_two odd take picked
