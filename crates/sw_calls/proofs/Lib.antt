mod Unread
