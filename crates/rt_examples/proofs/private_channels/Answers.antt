use Rattle.rt_examples.proofs.PrivateComputed.{strangers_are_refused_holds, members_join_holds}
use Rattle.rt_examples.proofs.PrivateComputed.{open_joins_are_refused_holds, readers_dont_send_holds}
use Rattle.rt_examples.proofs.PrivateComputed.{members_post_holds, readers_dont_post_holds}
use Rattle.rt_examples.proofs.private_channels.Goals as goal

pub returns : goal.returns
returns c =
    record {
      strangers = strangers_are_refused_holds;
      members = members_join_holds;
      open_joins = open_joins_are_refused_holds;
      readers = readers_dont_send_holds;
      posts = members_post_holds;
      no_posts = readers_dont_post_holds;
    }
