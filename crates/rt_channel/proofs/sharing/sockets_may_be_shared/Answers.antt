use Rattle.rt_channel.proofs.Crossing.{Effect-crosses}
use Rattle.rt_channel.proofs.sharing.sockets_may_be_shared.Goals as goal

pub returns-clause-effect : goal.returns-clause-effect
returns-clause-effect c =
    let held = c.data_may_be_shared.ensures in
    let messages = c.messages_may_be_shared.ensures in
    Effect-crosses held.text c.trees_may_be_shared.ensures.json held.claims
    c.subscriptions_may_be_shared.ensures.binding messages.message messages.end_name
