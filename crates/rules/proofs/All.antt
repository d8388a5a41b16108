-- Every definition of the rules computes where a line says `unfolding All`. Written by tools/unfold-all.
use Prim.Native.Nat.{ℕ}
use Rattle.words.specs.Word as word-
use Rattle.rules.specs.Desk as desk-
use Rattle.rules.specs.Memories as memories-
use Rattle.rules.specs.Allocation as allocation-
use Rattle.rules.specs.Geometry as geometry-
use Rattle.rules.specs.Store as store-
use Rattle.rules.specs.Buffers as buffers-
use Rattle.rules.specs.Requests as requests-
use Rattle.rules.specs.Settle as settle-
use Rattle.rules.specs.Transfer as transfer-
use Rattle.rules.specs.Close as close-
use Rattle.rules.specs.Open as open-
use Rattle.rules.specs.Time as time-
use Rattle.rules.specs.Line as line-
use Rattle.rules.specs.Frames as frames-
use Rattle.rules.specs.Answers as answers-
use Rattle.rules.specs.TransferCounts as transfercounts-
use Rattle.rules.specs.Controls as controls-
use Rattle.rules.specs.Look as look-
use Rattle.rules.specs.FileCounts as filecounts-
use Rattle.rules.specs.Reply as reply-
use Rattle.rules.specs.Calls as calls-
use Rattle.rules.specs.Sheet as sheet-

unfoldable pub All : ℕ
unfolding word-.zeros word-.quiet word-.Bytes desk-.frame_asks desk-.asked desk-.fresh_desk desk-.file_of
    desk-.with_file desk-.desk_time desk-.answered desk-.respond desk-.replies desk-.after desk-.happens
    desk-.history desk-.reply_bytes desk-.input_lines desk-.answer_lines desk-.program memories-.share_of
    memories-.parts memories-.blocks memories-.buffers_of memories-.buffers allocation-.place_of
    allocation-.up_from allocation-.fresh_alloc allocation-.held_at allocation-.front allocation-.holds
    allocation-.with_clock allocation-.take_own allocation-.take_timer allocation-.free_timer allocation-.free_own
    allocation-.ends_at allocation-.goes_at allocation-.allot allocation-.allot_all allocation-.end_all
    allocation-.alloc_time allocation-.alloc_asked allocation-.happening allocation-.times_out allocation-.told
    allocation-.alloc_after allocation-.annals allocation-.own_entry allocation-.timer_entry allocation-.queue_of
    allocation-.port_of allocation-.timer_list geometry-.divided_up geometry-.data_blocks geometry-.capacity
    geometry-.block_size geometry-.within geometry-.in_range geometry-.fits_share store-.used store-.empty_store
    store-.pad store-.record_bytes store-.record_words store-.block_bytes store-.zeroed store-.added store-.tail
    store-.readied store-.inscribed store-.put store-.put_all store-.advance store-.advance_by store-.dropped
    store-.discard store-.purge store-.head_of store-.take_head store-.fetch buffers-.lies buffers-.filled
    buffers-.refilled requests-.count_acc requests-.is_writer requests-.is_reader requests-.any_acc
    requests-.writers requests-.readers requests-.opened requests-.acc_at requests-.capacity_of requests-.fits
    requests-.with_store requests-.with_accs requests-.with_buffers requests-.with_queues requests-.with_timers
    requests-.say requests-.alter requests-.alter_acc requests-.put_rec requests-.took_by requests-.behind
    requests-.is_idle requests-.with_req requests-.begun requests-.without requests-.without_timer
    requests-.arm_in requests-.request requests-.requeue requests-.leave requests-.finish requests-.cancel
    requests-.fail_req requests-.fail requests-.arm requests-.wait requests-.freed settle-.handed
    settle-.read_result settle-.write_result settle-.data_rec settle-.still settle-.onward settle-.serve_reader
    settle-.serve_writer settle-.at_head settle-.turn settle-.settle_for settle-.settle transfer-.may_wait
    transfer-.read_on transfer-.read transfer-.is_nil transfer-.write_on transfer-.write transfer-.collected
    transfer-.collect close-.close_rec close-.end_readers close-.last_gone close-.vacate close-.closed
    close-.close open-.new_file open-.geo_of open-.build open-.sharing_of open-.other_share open-.crowded
    open-.first_free open-.holds_id open-.free_id_from open-.free_id open-.new_acc open-.enter open-.open_rec
    open-.purged open-.open_reader open-.open_writer open-.room_to_open open-.open_file time-.due time-.fail_all
    time-.minus time-.lessen time-.lapse time-.file_time time-.time_haps line-.digit_of line-.value_of
    line-.digits_of line-.all_digits line-.bytes_of line-.is_line line-.frame_in line-.line_of line-.lines_from
    line-.lines_of frames-.control_frame frames-.of_length frames-.frame_of answers-.answer_bytes
    transfercounts-.in_words transfercounts-.count_bytes transfercounts-.readable transfercounts-.log_of
    controls-.set_timeout controls-.set_extended controls-.set_typed controls-.set_keep controls-.switched
    controls-.of_reader controls-.abort controls-.while_idle controls-.control look-.oldest look-.look_file
    look-.look_req look-.look filecounts-.data_count filecounts-.counts reply-.hushed reply-.leaves
    reply-.answering reply-.status reply-.unmade calls-.refusal calls-.on_acc calls-.ask_built calls-.ask_unbuilt
    calls-.ask sheet-.head_frame sheet-.rec_frame sheet-.rec_lines sheet-.sheet sheet-.all_lines sheet-.good_head
    sheet-.good_rec sheet-.good_recs sheet-.rec_of sheet-.frames_sheet sheet-.read_sheet sheet-.loaded sheet-.load
    sheet-.save
All = 0
