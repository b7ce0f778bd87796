-- What a queue gives, where number k of the lane of node n is taken out.
use Rattle.std.proofs.Common.{◌≡◌, ℕ, ◌≤◌, length, Some, None, sym, refl, ◌∙◌}
use Rattle.std.specs.List.{slice_get, remove}
use Rattle.std.proofs.lemmas.Option.{slice_get_past}
use Rattle.model.specs.Channels.{Gives}
use Rattle.model.specs.declared.message.Message.{Message}
use Rattle.model.proofs.Puts.{is_put}
use Rattle.short_list.proofs.Shifting.{removed_past}
use Rattle.queue.specs.Queues.{queued, limit_of, lanes, place_of, Reaches, Given}
use Rattle.queue.specs.declared.queue.Queue.{Queue}
use Rattle.queue.proofs.Lanes.{lane_length, lane_for, sum_without, lane_without}
use Rattle.queue.proofs.Places.{which, left}

module _ (before : Queue) (n k : ℕ) where
  -- number k is m, which stands at a place
  module _ (after : Queue) (at : ℕ) (m : Message) (place : place_of n (queued before) k ≡ Some at) (is : slice_get (queued before) at ≡ Some m) (rest : queued after ≡ remove (queued before) at) where
    number : slice_get (lanes before n) k ≡ Some m
    number = which n (queued before) k at place ∙ is

    for_node : m.to ≡ n
    for_node = lane_for n (queued before) k m number

    pub given_some : Given before n k (Some m) after
    given_some = record {
      which = sym number;
      left = is_put _ _ n _ (rw rest (left n (queued before) k at place)) (λ j off. rw rest (lane_without m j (queued before) at is (λ e. off (e ∙ for_node))));
    }

    pub gives_some : limit_of after ≡ limit_of before → Gives queued limit_of before n (Some m) after
    gives_some room = record { addressed = for_node; removed = λ x. rw rest (sum_without m _ (queued before) at is); room = room }

  -- the lane is no longer, so that there is none
  module _ (past : length (lanes before n) ≤ k) where
    pub given_none : Given before n k None before
    given_none = record { which = sym (slice_get_past (lanes before n) k past); left = is_put _ _ n _ (sym (removed_past (lanes before n) k past)) (λ j off. refl) }

    pub gives_none : Reaches (lanes before n) k → Gives queued limit_of before n None before
    gives_none reaches = (sym (lane_length n (queued before)) ∙ reaches past, refl)
