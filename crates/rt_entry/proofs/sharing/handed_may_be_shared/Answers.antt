use Rattle.rt_entry.proofs.Crossing.{changes_cross, Input-crosses, Entry-crosses}
use Rattle.rt_entry.proofs.sharing.handed_may_be_shared.Goals as goal

pub returns-clause-channel_view : goal.returns-clause-channel_view
returns-clause-channel_view c = c.views_may_be_shared.ensures.view

pub returns-clause-input : goal.returns-clause-input
returns-clause-input c =
    let held = c.data_may_be_shared.ensures in
    let messages = c.messages_may_be_shared.ensures in
    Input-crosses messages.version held.claims held.bytes messages.posting
    (changes_cross c.changes_may_be_shared.ensures)

pub returns-clause-entry : goal.returns-clause-entry
returns-clause-entry c =
    let messages = c.messages_may_be_shared.ensures in
    Entry-crosses messages.version messages.end_name messages.said (changes_cross c.changes_may_be_shared.ensures)
    c.tables_may_be_shared.ensures c.subscriptions_may_be_shared.ensures.subscriptions
    c.views_may_be_shared.ensures.views
