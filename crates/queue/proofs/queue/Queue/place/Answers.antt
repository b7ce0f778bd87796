use Rattle.std.proofs.Common.{ℕ, rules}
use borrow.Author.Tests.{tests}
use Rattle.std.proofs.lemmas.Iterator.{YieldsList-from_slice}
use Rattle.std.proofs.lemmas.Iterator.Consumers.{YieldsList-from_enumerate, YieldsList-from_filter, YieldsList-at, nth_from_yields_List}
use Rattle.model.specs.Messages.{for}
use Rattle.model.specs.declared.message.Message.{Message}
use Rattle.queue.specs.Queues.{queued}
use Rattle.queue.proofs.queue.Queue.place.Goals as goal

pub returns : goal.returns
returns c =
    let slice = YieldsList-at c.enumerate.ensures.source (YieldsList-from_slice (queued c.args.self.now) cc) in
    let numbered = YieldsList-at c.filter.ensures.source (YieldsList-from_enumerate slice c.enumerate.ensures.count) in
    rw (← nth_from_yields_List _ _ _ c.nth.ensures.ran (YieldsList-from_filter _ (λ (p : ℕ × Message). for c.args.node p.1) numbered c.filter.ensures.closure (λ x r q k. search (rules, tests)))) (search rules)
