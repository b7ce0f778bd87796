-- The lane of a node, where one message more is put for it.
use Rattle.std.proofs.Common.{◌≡◌, ℕ, [], ◌∷◌, ◌++◌, ap, arith}
use Rattle.std.proofs.lemmas.Bool.Decides.{nat_tests}
use Rattle.model.specs.declared.message.Message.{Message}
use Rattle.queue.specs.Queues.{lanes, lanes_with}
use Rattle.queue.specs.declared.queue.Queue.{Queue}

pub lane_more : (before after : Queue) (m : Message) (n : ℕ) → lanes after ≡ lanes_with m (lanes before) → m.to ≡ n → lanes after n ≡ lanes before n ++ (m ∷ [])
lane_more before after m n put to = grind (arith, nat_tests, ap (λ f. f n) put)
